-- `row_heads::head_of` meets its contract: which arm was taken says which record it is.
-- Assumes nothing.
use mathlib.Core.Path.{sym, ◌∙◌, ap}
use Rattle.entry_rows.specs.Rows.{fieldless_head, head_of}
use Rattle.row_heads.proofs.head_of.Goals as goal

pub returns-in-NoRecord : goal.returns-in-NoRecord
unfolding head_of fieldless_head
returns-in-NoRecord c =
    let a = c.args in
    c.fieldless_head.ensures ∙ sym (ap (head_of a.stream_type a.pid) c.in-NoRecord.is)

pub returns-in-Hierarchy : goal.returns-in-Hierarchy
returns-in-Hierarchy c =
    let a = c.args in
    c.head_with_hierarchy.ensures ∙ sym (ap (head_of a.stream_type a.pid) c.in-Hierarchy.is)

pub returns-in-Extension : goal.returns-in-Extension
returns-in-Extension c =
    let a = c.args in
    c.head_with_extension.ensures ∙ sym (ap (head_of a.stream_type a.pid) c.in-Extension.is)

pub returns-in-Implied : goal.returns-in-Implied
unfolding head_of fieldless_head
returns-in-Implied c =
    let a = c.args in
    c.fieldless_head-in-Implied.ensures ∙ sym (ap (head_of a.stream_type a.pid) c.in-Implied.is)
