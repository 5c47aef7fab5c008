-- `continuity::is_copy` meets its contract: the first test that fails settles the answer. Assumes nothing.
use borrow.Author.Tests.{eq-eqb, ne_eqb}
use mathlib.Core.Path.{sym, ap, ap₂, ◌∙◌}
use mathlib.Core.Bool.{Bool, ◌&&◌}
use lib.Dec.{eqb}
use Rattle.continuity.specs.Following.{repeats}
use Rattle.continuity.proofs.is_copy.Goals as goal

pub returns-then-not-has_payload : goal.returns-then-not-has_payload
returns-then-not-has_payload c =
    let a = c.args in
    sym
    (ap
    (λ (t : Bool). t && eqb a.fields.continuity_counter a.earlier.continuity_counter && repeats (a.fields.adaptation.has_pcr && a.earlier.adaptation.has_pcr) a.packet.now a.before.now)
    (sym c.has_payload.ensures ∙ c.if-not-has_payload.true))

pub returns-then-fields-earlier : goal.returns-then-fields-earlier
returns-then-fields-earlier c =
    let a = c.args in
    sym
    (ap₂
    (λ (t s : Bool). t && s && repeats (a.fields.adaptation.has_pcr && a.earlier.adaptation.has_pcr) a.packet.now a.before.now)
    (sym c.has_payload.ensures ∙ c.if-not-has_payload.false)
    (ne_eqb a.fields.continuity_counter a.earlier.continuity_counter c.if-fields-earlier.true))

pub returns : goal.returns
returns c =
    let a = c.args in
    c.repeated.ensures
    ∙ sym
    (ap₂
    (λ (t s : Bool). t && s && repeats (a.fields.adaptation.has_pcr && a.earlier.adaptation.has_pcr) a.packet.now a.before.now)
    (sym c.has_payload.ensures ∙ c.if-not-has_payload.false)
    (eq-eqb a.fields.continuity_counter a.earlier.continuity_counter c.if-fields-earlier.false))
