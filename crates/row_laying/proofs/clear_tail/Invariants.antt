-- `row_laying::clear_tail` meets its contract. The invariant: the places passed hold 0.
-- Assumes nothing.
use Prim.Native.Nat.{◌-◌, ◌≤◌}
use mathlib.Core.Path.{◌≡◌}
use lib.ListN.{length, replicate}
use lib.Seq.{sets}
use Rattle.row_laying.proofs.clear_tail.Given as goal

abbrev pub invariant-loop-i : goal.invariant-loop-i
invariant-loop-i l = (16 ≤ l.i) × (l.i ≤ 80) × (length l.row ≡ length l.initial.row) × (l.row ≡ sets l.initial.row 16 (replicate (l.i - 16) 0))
