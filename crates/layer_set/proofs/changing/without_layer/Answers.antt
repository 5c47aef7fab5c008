-- `without_layer` meets its contract: a blank is put at the index, and the stored values follow.
-- Assumes nothing.
use Rattle.layer_set.proofs.Parts.{without_parts}
use Rattle.layer_set.proofs.changing.without_layer.Goals as goal

pub returns : goal.returns
returns c =
    let a = c.args in
    let removed = c.remove-present in
    without_parts a.«set» a.index removed.result removed.new.embedded c.blank_entry.result
    removed.new.self
    c.blank_entry.ensures removed.ensures.answer.0 removed.ensures.answer.1 removed.ensures.content
