-- `judge_described` meets its contract: which arm was taken says what the base has.
-- Assumes nothing.
use mathlib.Core.Logic.{inl, inr}
use mathlib.Core.Path.{◌∙◌, ap, sym}
use Rattle.mvc_descriptors.specs.declared.Found.{Found}
use Rattle.stereo_set.specs.Set.{found_judged}
use Rattle.stereo_set.proofs.set.judge_described.Goals as goal

pub returns-in-Missing : goal.returns-in-Missing
returns-in-Missing c =
    let base = c.args.base in
    let second = c.args.second in
    c.refused.ensures
    ∙ elim c.in-Missing.is [
      | inl e ↦ sym (ap (λ (f : Found). found_judged base.entry f second.entry second.found) e)
      | inr e ↦ sym (ap (λ (f : Found). found_judged base.entry f second.entry second.found) e)
    ]

pub returns-in-One : goal.returns-in-One
returns-in-One c =
    let base = c.args.base in
    let second = c.args.second in
    c.judge_second.ensures ∙ sym (ap (λ (f : Found). found_judged base.entry f second.entry second.found) c.in-One.is)
