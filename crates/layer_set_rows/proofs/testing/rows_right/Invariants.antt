-- `rows_right` meets its contract: every row passed is right.
-- Assumes nothing.
use Prim.Native.Nat.{ℕ, ◌-◌, ◌≤◌, ◌<◌}
use mathlib.Core.Bool.{true}
use mathlib.Core.Path.{◌≡◌}
use Rattle.layer_set_rows.specs.Buffers.{row_fine}
use Rattle.layer_set_rows.proofs.testing.rows_right.Given as goal

abbrev pub invariant-loop-index : goal.invariant-loop-index
invariant-loop-index l = (l.index ≤ 64) × ((k : ℕ) → k < l.index → row_fine l.rows k ≡ true)
