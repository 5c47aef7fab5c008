-- `found_next` meets its contract: which arm was taken says what was found before.
-- Assumes nothing.
use mathlib.Core.Path.{◌∙◌, ap, sym}
use Rattle.mvc_descriptors.specs.declared.Found.{Found}
use Rattle.mvc_descriptors.specs.Finding.{found_next}
use Rattle.mvc_descriptors.proofs.found_next.Goals as goal

pub returns-in-Missing : goal.returns-in-Missing
returns-in-Missing c =
    let a = c.args in
    c.found_first.ensures ∙ sym (ap (λ (f : Found). found_next f a.payload.now) c.in-Missing.is)
