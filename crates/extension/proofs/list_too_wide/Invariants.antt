-- `list_too_wide` meets its contract. The invariant: none of the layers passed is too wide.
-- Assumes nothing.
use Prim.Native.Nat.{◌≤◌}
use mathlib.Core.Bool.{false}
use mathlib.Core.Path.{◌≡◌}
use lib.ListN.{length, take}
use Rattle.combinators.specs.Lists.{any}
use Rattle.syntax.specs.Filled.{too_wide_in}
use Rattle.extension.specs.Extension.{layer_table}
use Rattle.extension.proofs.list_too_wide.Given as goal

abbrev pub invariant-loop-index : goal.invariant-loop-index
invariant-loop-index l =
    (l.index-index ≤ length l.index-items) × (any (λ x. too_wide_in (layer_table x)) (take l.index-index l.index-items) ≡ false)
