-- `fault_of` meets its contract: each test is made by its function.
-- Assumes nothing.
use Rattle.layer_set.proofs.Judged.{fault_parts}
use Rattle.layer_set.proofs.changing.fault_of.Goals as goal

pub returns : goal.returns
returns c =
    let a = c.args in
    let held = c.pid_held-held in
    let slot = c.slot_of-index in
    let layer = c.is_layer in
    let there = c.member in
    let outline = c.outline_for in
    fault_parts a.present a.entries a.entry layer.result held.result there.result slot.result outline.result c.lowest_fault.result
    layer.ensures held.ensures slot.ensures.0 there.ensures outline.ensures c.lowest_fault.ensures
