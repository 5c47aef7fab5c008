-- `some_reference_too_wide` meets its contract. The invariant: none of the references passed is too wide.
-- Assumes nothing.
use mathlib.Core.Bool.{◌||◌}
use mathlib.Core.Path.{refl, sym, ◌∙◌, ap, ap₂}
use lib.ListN.{length}
use lib.Seq.{take_all}
use Rattle.combinators.specs.Lists.{any, any_next, any_found}
use Rattle.point_fields.specs.Fields.{reference_too_wide}
use Rattle.point_weights.proofs.Weights.{reference_wide, reference_fine}
use native.Mathlib.Omega.{arith}
use Rattle.point_weights.proofs.some_reference_too_wide.Goals as goal

pub loop-reference-init : goal.loop-reference-init
loop-reference-init c = (omega arith, refl)

pub returns-then-reference-gt127 : goal.returns-then-reference-gt127
returns-then-reference-gt127 c = let l = c.args.references.now in sym (sym (ap (any reference_too_wide) (take_all (length l) l (omega arith))) ∙ any_found l 0 reference_too_wide (length l) c.loop-reference.reference-index (omega arith) (omega arith) (reference_wide _ c.if-reference-gt127.true))

pub loop-reference-preserved : goal.loop-reference-preserved
loop-reference-preserved c = let l = c.args.references.now in (omega arith, any_next l 0 reference_too_wide c.loop-reference.reference-index (omega arith) ∙ ap₂ ◌||◌ c.loop-reference.invariant.1 (reference_fine _ c.if-reference-gt127.false))

pub returns : goal.returns
returns c = let l = c.args.references.now in sym (sym (ap (any reference_too_wide) (take_all c.loop-reference.reference-index l (omega arith))) ∙ c.loop-reference.invariant.1)
