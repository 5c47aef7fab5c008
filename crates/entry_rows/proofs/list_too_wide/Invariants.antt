-- `entry_rows::list_too_wide` meets its contract. The invariant: none of the layers passed is too wide.
-- Assumes nothing.
use Prim.Native.Nat.{◌≤◌}
use mathlib.Core.Bool.{false}
use mathlib.Core.Path.{◌≡◌}
use lib.ListN.{length, take}
use Rattle.combinators.specs.Lists.{any}
use Rattle.entry_rows.specs.Rows.{layer_too_wide}
use Rattle.entry_rows.proofs.list_too_wide.Given as goal

abbrev pub invariant-loop-number : goal.invariant-loop-number
invariant-loop-number l = (l.number-index ≤ length l.number-items) × (any layer_too_wide (take l.number-index l.number-items) ≡ false)
