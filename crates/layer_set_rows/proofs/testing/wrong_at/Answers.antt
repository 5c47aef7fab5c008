-- `wrong_at` meets its contract: each test is made by its function.
-- Assumes nothing.
use Prim.Native.Nat.{ℕ}
use lib.Dec.{eqb}
use borrow.Author.Tests.{eq-eqb, ne_eqb}
use Rattle.judging.specs.Judging.{type_not_allowed}
use Rattle.layer_set_rows.proofs.Tests.{other_index, not_allowed, flags_wrong, list_decides}
use mathlib.Core.Bool.{Bool}
use mathlib.Core.Path.{sym, ap, ◌∙◌}
use Rattle.layer_set_rows.proofs.testing.wrong_at.Goals as goal

pub returns-then-slot_of-index : goal.returns-then-slot_of-index
returns-then-slot_of-index c =
    let a = c.args in
    other_index a.index a.entry (ap (λ (n : ℕ). eqb n a.index) (sym c.slot_of.ensures.0) ∙ ne_eqb _ _ c.if-slot_of-index.true)

pub returns-then-type_not_allowed : goal.returns-then-type_not_allowed
returns-then-type_not_allowed c =
    let a = c.args in
    let slot = c.slot_of in
    not_allowed a.index a.entry (ap (λ (n : ℕ). eqb n a.index) (sym slot.ensures.0) ∙ eq-eqb _ _ c.if-slot_of-index.false)
    (ap (λ (g : Bool). type_not_allowed g a.entry.stream_type a.entry.«record») (sym c.gives.ensures) ∙ sym c.type_not_allowed.ensures ∙ c.if-type_not_allowed.true)

pub returns-then-wrong_flags : goal.returns-then-wrong_flags
returns-then-wrong_flags c =
    let a = c.args in
    let slot = c.slot_of in
    flags_wrong a.index a.entry (ap (λ (n : ℕ). eqb n a.index) (sym slot.ensures.0) ∙ eq-eqb _ _ c.if-slot_of-index.false)
    (ap (λ (g : Bool). type_not_allowed g a.entry.stream_type a.entry.«record») (sym c.gives.ensures) ∙ sym c.type_not_allowed.ensures ∙ c.if-type_not_allowed.false)
    (sym c.wrong_flags.ensures ∙ c.if-wrong_flags.true)

pub returns : goal.returns
returns c =
    let a = c.args in
    let slot = c.slot_of in
    c.wrong_embedded.ensures a.entry.stream_type
    ∙ list_decides a.index a.entry (ap (λ (n : ℕ). eqb n a.index) (sym slot.ensures.0) ∙ eq-eqb _ _ c.if-slot_of-index.false)
    (ap (λ (g : Bool). type_not_allowed g a.entry.stream_type a.entry.«record») (sym c.gives.ensures) ∙ sym c.type_not_allowed.ensures ∙ c.if-type_not_allowed.false)
    (sym c.wrong_flags.ensures ∙ c.if-wrong_flags.false)
