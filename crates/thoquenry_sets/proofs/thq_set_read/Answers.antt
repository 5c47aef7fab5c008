-- `thq_set_read` meets its contract: which reading was asked for decides.
-- Assumes nothing.
use Prim.Native.Nat.{ℕ}
use mathlib.Core.Path.{sym, ap, ◌∙◌}
use Rattle.thoquenry_sets.specs.Calls.{set_reply, read_into}
use Rattle.c_answers.specs.Answer.{Asked}
use Rattle.thoquenry_sets.proofs.Replies.{read_no_layers, read_no_stored, read_asked}
use Rattle.thoquenry_sets.proofs.thq_set_read.Goals as goal

pub returns-then-layers-ne-SET_LAYERS : goal.returns-then-layers-ne-SET_LAYERS
returns-then-layers-ne-SET_LAYERS c =
    let a = c.args in
    ap (λ (n : ℕ). set_reply n a.layers.now a.stored.now) c.not_a_call.ensures ∙ read_no_layers a.reading a.bytes.now a.layers.now a.stored.now c.if-layers-ne-SET_LAYERS.true

pub returns-then-stored-ne-SET_STORED : goal.returns-then-stored-ne-SET_STORED
returns-then-stored-ne-SET_STORED c =
    let a = c.args in
    ap (λ (n : ℕ). set_reply n a.layers.now a.stored.now) c.not_a_call-then-stored-ne-SET_STORED.ensures
    ∙ read_no_stored a.reading a.bytes.now a.layers.now a.stored.now c.if-layers-ne-SET_LAYERS.false c.if-stored-ne-SET_STORED.true

pub read_into-requires : goal.read_into-requires
read_into-requires c = (c.if-layers-ne-SET_LAYERS.false, c.if-stored-ne-SET_STORED.false)

pub returns-in-Some : goal.returns-in-Some
returns-in-Some c =
    let a = c.args in
    c.read_into.ensures
    ∙ ap (λ (k : Asked). read_into k a.bytes.now a.layers.now a.stored.now) (sym c.in-Some.is)
    ∙ read_asked a.reading a.bytes.now a.layers.now a.stored.now c.if-layers-ne-SET_LAYERS.false c.if-stored-ne-SET_STORED.false c.reading_of-asked.result c.reading_of-asked.ensures

pub returns-in-None : goal.returns-in-None
returns-in-None c =
    let a = c.args in
    ap (λ (n : ℕ). set_reply n a.layers.now a.stored.now) c.not_a_call-in-None.ensures
    ∙ ap (λ (k : Asked). read_into k a.bytes.now a.layers.now a.stored.now) (sym c.in-None.is)
    ∙ read_asked a.reading a.bytes.now a.layers.now a.stored.now c.if-layers-ne-SET_LAYERS.false c.if-stored-ne-SET_STORED.false c.reading_of-asked.result c.reading_of-asked.ensures
