-- `continuity::alone` meets its contract: each test picks the case of the definition. Assumes nothing.
use mathlib.Core.Path.{refl, sym, ap, ◌∙◌}
use Rattle.continuity.proofs.Steps.{alone_by_lem}
use Rattle.continuity.specs.declared.Step.TheVariants.{Starts}
use Rattle.continuity.proofs.alone.Goals as goal

pub returns-then-outside : goal.returns-then-outside
returns-then-outside c =
    let a = c.args in
    sym (alone_by_lem a.fields a.packet.now (sym c.outside.ensures ∙ c.if-outside.true) refl refl)

pub returns-then-scrambled : goal.returns-then-scrambled
returns-then-scrambled c =
    let a = c.args in
    sym
    (alone_by_lem a.fields a.packet.now
    (sym c.outside.ensures ∙ c.if-outside.false)
    (sym c.scrambled.ensures ∙ c.if-scrambled.true)
    refl)

pub returns-then-starts_clear : goal.returns-then-starts_clear
returns-then-starts_clear c =
    let a = c.args in
    ap Starts c.payload_at.ensures
    ∙ sym
    (alone_by_lem a.fields a.packet.now
    (sym c.outside.ensures ∙ c.if-outside.false)
    (sym c.scrambled.ensures ∙ c.if-scrambled.false)
    (sym c.starts_clear.ensures ∙ c.if-starts_clear.true))

pub returns : goal.returns
returns c =
    let a = c.args in
    sym
    (alone_by_lem a.fields a.packet.now
    (sym c.outside.ensures ∙ c.if-outside.false)
    (sym c.scrambled.ensures ∙ c.if-scrambled.false)
    (sym c.starts_clear.ensures ∙ c.if-starts_clear.false))
