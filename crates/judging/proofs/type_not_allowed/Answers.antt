-- `judging::type_not_allowed` meets its contract: which arm was taken says which record it is, and the callee judges it.
-- Assumes nothing.
use mathlib.Core.Path.{◌∙◌, ap, sym}
use mathlib.Core.Bool.{not}
use Rattle.judging.specs.Judging.{type_not_allowed}
use Rattle.judging.proofs.type_not_allowed.Goals as goal

pub returns-in-NoRecord : goal.returns-in-NoRecord
returns-in-NoRecord c =
    let a = c.args in
    sym (ap (type_not_allowed a.given a.stream_type) c.in-NoRecord.is)

pub returns-in-Hierarchy : goal.returns-in-Hierarchy
returns-in-Hierarchy c =
    let a = c.args in
    ap not c.may_stand_on.ensures ∙ sym (ap (type_not_allowed a.given a.stream_type) c.in-Hierarchy.is)

pub returns-in-Extension : goal.returns-in-Extension
returns-in-Extension c =
    let a = c.args in
    ap not c.extension_on.ensures ∙ sym (ap (type_not_allowed a.given a.stream_type) c.in-Extension.is)

pub returns-in-Implied : goal.returns-in-Implied
returns-in-Implied c =
    let a = c.args in
    sym (ap (type_not_allowed a.given a.stream_type) c.in-Implied.is)
