-- `stored_holds` meets its contract: the numbers passed are those that were worked out.
-- Assumes nothing.
use Prim.Native.Nat.{ℕ, ◌-◌, ◌≤◌, ◌<◌}
use mathlib.Core.Bool.{true}
use mathlib.Core.Path.{◌≡◌}
use lib.Dec.{eqb}
use lib.ListN.{get_or}
use Rattle.layer_set_rows.specs.Buffers.{number_of}
use Rattle.layer_set_rows.proofs.testing.stored_holds.Given as goal

abbrev pub invariant-loop-place : goal.invariant-loop-place
invariant-loop-place l = (l.place ≤ 192) × ((k : ℕ) → k < l.place → eqb (get_or l.stored k 0) (number_of l.kept k) ≡ true)
