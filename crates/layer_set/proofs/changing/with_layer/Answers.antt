-- `with_layer` meets its contract: the entry and what it names are put at its index, and the stored values follow.
-- Assumes nothing.
use Rattle.layer_set.proofs.Parts.{with_parts}
use Rattle.layer_set.proofs.changing.with_layer.Goals as goal

pub returns : goal.returns
returns c =
    let a = c.args in
    let slot = c.slot_of-index in
    let names = c.names-names in
    let added = c.add-present in
    with_parts a.«set» a.entry slot.result names.result added.result added.new.embedded
    added.new.self
    slot.ensures.0 names.ensures added.ensures.answer.0 added.ensures.answer.1 added.ensures.content
