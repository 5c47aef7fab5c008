-- `stored_holds` meets its contract: the numbers passed are those that were worked out.
-- Assumes nothing.
use Rattle.combinators.specs.Below.{every}
use mathlib.Core.Bool.{Bool, ◌&&◌}
use mathlib.Core.Path.{sym, ap, ap₂, ◌∙◌}
use native.Mathlib.Omega.{arith}
use borrow.Author.Count.{below_more}
use borrow.Author.Tests.{eq-eqb, ne_eqb}
use lib.Dec.{eqb}
use lib.ListN.{get_or}
use Rattle.combinators.specs.Below.{at_every}
use Rattle.layer_set_rows.proofs.Tests.{not_every}
use Rattle.layer_set_rows.specs.Buffers.{number_of, stored_holds}
use Rattle.layer_set_rows.proofs.testing.stored_holds.Goals as goal

pub returns-then-stored-ne192 : goal.returns-then-stored-ne192
unfolding stored_holds
returns-then-stored-ne192 c =
    let a = c.args in
    sym (ap (λ (b : Bool). b && every (λ k. eqb (get_or a.stored.now k 0) (number_of a.kept.now k)) 192) (ne_eqb _ _ c.if-stored-ne192.true))

pub loop-place-init : goal.loop-place-init
loop-place-init c = (omega arith, λ k h. absurd (omega arith))

pub returns-then-stored-place : goal.returns-then-stored-place
unfolding stored_holds
returns-then-stored-place c =
    let a = c.args in
    let at = c.loop-place in
    let long = c.if-stored-ne192.false in
    sym (ap₂ ◌&&◌ (eq-eqb _ _ long)
    (not_every (λ k. eqb (get_or a.stored.now k 0) (number_of a.kept.now k)) 192 at.place (omega arith)
    (ap (eqb (get_or a.stored.now at.place 0)) (sym c.stored_number.ensures) ∙ ne_eqb _ _ c.if-stored-place.true)))

pub loop-place-preserved : goal.loop-place-preserved
loop-place-preserved c =
    let a = c.args in
    let at = c.loop-place in (
      omega arith,
      below_more _ _ at.invariant.1 (ap (eqb (get_or a.stored.now at.place 0)) (sym c.stored_number.ensures) ∙ eq-eqb _ _ c.if-stored-place.false),
    )

pub returns : goal.returns
unfolding stored_holds
returns c =
    let a = c.args in
    let at = c.loop-place in
    let long = c.if-stored-ne192.false in
    sym (ap₂ ◌&&◌ (eq-eqb _ _ long)
    (at_every (λ k. eqb (get_or a.stored.now k 0) (number_of a.kept.now k)) 192 (λ k h. at.invariant.1 k (omega arith))))
