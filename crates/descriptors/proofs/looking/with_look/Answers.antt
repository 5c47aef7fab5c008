-- `descriptors::with_look` meets its contract: which arm was taken says which look it is.
-- Assumes nothing.
use mathlib.Core.Path.{◌∙◌, ap, sym}
use Rattle.descriptors.specs.declared.looking.Look.{Look}
use Rattle.descriptors.specs.Finding.{look_found}
use Rattle.descriptors.proofs.looking.with_look.Goals as goal

pub returns-in-WrongLength : goal.returns-in-WrongLength
returns-in-WrongLength c =
    let a = c.args in
    c.with_wrong_length.ensures ∙ sym (ap (λ (look : Look). look_found a.found look a.end) c.in-WrongLength.is)

pub returns-in-Hierarchy : goal.returns-in-Hierarchy
returns-in-Hierarchy c =
    let a = c.args in
    c.with_record.ensures ∙ sym (ap (λ (look : Look). look_found a.found look a.end) c.in-Hierarchy.is)

pub returns-in-Extension : goal.returns-in-Extension
returns-in-Extension c =
    let a = c.args in
    c.with_record-in-Extension.ensures ∙ sym (ap (λ (look : Look). look_found a.found look a.end) c.in-Extension.is)
