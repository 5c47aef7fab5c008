-- `some_reference_too_wide` meets its contract. The invariant: none of the references passed is too wide.
-- Assumes nothing.
use Prim.Native.Nat.{◌≤◌}
use mathlib.Core.Bool.{false}
use mathlib.Core.Path.{◌≡◌}
use lib.ListN.{length, take}
use Rattle.combinators.specs.Lists.{any}
use Rattle.point_fields.specs.Fields.{reference_too_wide}
use Rattle.point_weights.proofs.some_reference_too_wide.Given as goal

abbrev pub invariant-loop-reference : goal.invariant-loop-reference
invariant-loop-reference l = (l.reference-index ≤ length l.references) × (any reference_too_wide (take l.reference-index l.references) ≡ false)
