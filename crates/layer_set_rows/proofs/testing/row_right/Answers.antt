-- `row_right` meets its contract: by the entry, and then by the numbers.
-- Assumes nothing.
use Rattle.layer_set_rows.proofs.Tests.{row_decides, entry_wrong}
use Rattle.layer_set_rows.proofs.testing.row_right.Goals as goal

pub returns-then-right_at : goal.returns-then-right_at
returns-then-right_at c =
    let a = c.args in
    let entry = c.entry_in-entry in
    let right = c.right_at in
    let own = c.row_of-own in
    row_decides a.index a.row.now entry.result right.result entry.ensures right.ensures c.if-right_at.true own.result c.same_numbers.result own.ensures c.same_numbers.ensures

pub returns : goal.returns
returns c =
    let a = c.args in
    let entry = c.entry_in-entry in
    let right = c.right_at in
    entry_wrong a.index a.row.now entry.result right.result entry.ensures right.ensures c.if-right_at.false
