-- `judge_second` meets its contract: which arm was taken says what was found.
-- Assumes nothing.
use mathlib.Core.Logic.{inl, inr}
use mathlib.Core.Path.{◌∙◌, ap, sym}
use Rattle.mvc_descriptors.specs.declared.Found.{Found}
use Rattle.mvc_descriptors.specs.declared.Found.TheVariants.{One}
use Rattle.stereo_set.specs.Set.{found_judged}
use Rattle.stereo_set.proofs.set.judge_second.Goals as goal

pub returns-in-Missing : goal.returns-in-Missing
returns-in-Missing c =
    let a = c.args in
    c.refused.ensures
    ∙ elim c.in-Missing.is [
      | inl e ↦ sym (ap (λ (f : Found). found_judged a.base (One a.base_extension) a.second f) e)
      | inr e ↦ sym (ap (λ (f : Found). found_judged a.base (One a.base_extension) a.second f) e)
    ]

pub returns-in-One : goal.returns-in-One
returns-in-One c =
    let a = c.args in
    c.judge_ranges.ensures ∙ sym (ap (λ (f : Found). found_judged a.base (One a.base_extension) a.second f) c.in-One.is)
