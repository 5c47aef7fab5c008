-- `continuity::follow` meets its contract: each test picks the case of the definition. Assumes nothing.
use borrow.Author.Tests.{eq-eqb, ne_eqb}
use native.Mathlib.Omega.{arith}
use mathlib.Core.Path.{◌≡◌, refl, sym, ap, ◌∙◌}
use lib.ListN.{length}
use Rattle.packets.specs.declared.Packet.{Packet}
use Rattle.packets.specs.Reading.{packet_bytes, in_header, packet_of}
use Rattle.continuity.proofs.Steps.{step_by_lem}
use Rattle.continuity.proofs.follow.Goals as goal

pub returns-then-skipped : goal.returns-then-skipped
returns-then-skipped c =
    let a = c.args in
    sym
    (step_by_lem c.fields-fields.result (packet_of a.before.now) a.packet.now a.before.now c.fields-fields.ensures refl
    (sym c.skipped.ensures ∙ c.if-skipped.true) refl refl refl)

pub returns-then-before-ne-PACKET_BYTES : goal.returns-then-before-ne-PACKET_BYTES
returns-then-before-ne-PACKET_BYTES c =
    let a = c.args in
    c.alone.ensures
    ∙ sym
    (step_by_lem c.fields-fields.result (packet_of a.before.now) a.packet.now a.before.now c.fields-fields.ensures refl
    (sym c.skipped.ensures ∙ c.if-skipped.false)
    (ne_eqb (length a.before.now) packet_bytes c.if-before-ne-PACKET_BYTES.true) refl refl)

pub returns-then-is_copy : goal.returns-then-is_copy
returns-then-is_copy c =
    let a = c.args in
    sym
    (step_by_lem c.fields-fields.result c.fields-earlier.result a.packet.now a.before.now c.fields-fields.ensures c.fields-earlier.ensures
    (sym c.skipped.ensures ∙ c.if-skipped.false)
    (eq-eqb (length a.before.now) packet_bytes c.if-before-ne-PACKET_BYTES.false)
    (sym c.is_copy.ensures ∙ c.if-is_copy.true) refl)

pub is_gap-requires : goal.is_gap-requires
is_gap-requires c =
    let before = c.args.before.now in
    let counter : c.fields-earlier.result.continuity_counter ≡ in_header "continuity_counter" before =
    ap (λ (p : Packet). p.continuity_counter) c.fields-earlier.ensures in
    omega arith

pub returns-then-is_gap : goal.returns-then-is_gap
returns-then-is_gap c =
    let a = c.args in
    sym
    (step_by_lem c.fields-fields.result c.fields-earlier.result a.packet.now a.before.now c.fields-fields.ensures c.fields-earlier.ensures
    (sym c.skipped.ensures ∙ c.if-skipped.false)
    (eq-eqb (length a.before.now) packet_bytes c.if-before-ne-PACKET_BYTES.false)
    (sym c.is_copy.ensures ∙ c.if-is_copy.false)
    (sym c.is_gap.ensures ∙ c.if-is_gap.true))

pub returns : goal.returns
returns c =
    let a = c.args in
    c.alone-2.ensures
    ∙ sym
    (step_by_lem c.fields-fields.result c.fields-earlier.result a.packet.now a.before.now c.fields-fields.ensures c.fields-earlier.ensures
    (sym c.skipped.ensures ∙ c.if-skipped.false)
    (eq-eqb (length a.before.now) packet_bytes c.if-before-ne-PACKET_BYTES.false)
    (sym c.is_copy.ensures ∙ c.if-is_copy.false)
    (sym c.is_gap.ensures ∙ c.if-is_gap.false))
