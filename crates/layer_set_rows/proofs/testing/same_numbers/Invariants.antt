-- `same_numbers` meets its contract: the numbers passed are the same.
-- Assumes nothing.
use Prim.Native.Nat.{ℕ, ◌-◌, ◌≤◌, ◌<◌}
use mathlib.Core.Bool.{true}
use mathlib.Core.Path.{◌≡◌}
use lib.Dec.{eqb}
use lib.ListN.{get_or}
use Rattle.layer_set_rows.proofs.testing.same_numbers.Given as goal

abbrev pub invariant-loop-i : goal.invariant-loop-i
invariant-loop-i l = (l.i ≤ 80) × ((k : ℕ) → k < l.i → eqb (get_or l.row k 0) (get_or l.other k 0) ≡ true)
