-- `scanning::skipping::begins_with` meets its contract: the first byte that differs settles the answer. Assumes nothing.
use borrow.Author.Tests.{eq-eqb, ne_eqb}
use mathlib.Core.Path.{refl}
use Rattle.scanning.proofs.Looking.{begins_by}
use Rattle.scanning.proofs.skipping.begins_with.Goals as goal

pub returns-then-first-ne71 : goal.returns-then-first-ne71
returns-then-first-ne71 c =
    let a = c.args in
    begins_by a.first a.second a.third a.fourth a.other_second a.other_third a.other_fourth (ne_eqb _ _ c.if-first-ne71.true) refl refl refl

pub returns-then-second-other_second : goal.returns-then-second-other_second
returns-then-second-other_second c =
    let a = c.args in
    begins_by a.first a.second a.third a.fourth a.other_second a.other_third a.other_fourth (eq-eqb _ _ c.if-first-ne71.false) (ne_eqb _ _ c.if-second-other_second.true) refl refl

pub returns-then-third-other_third : goal.returns-then-third-other_third
returns-then-third-other_third c =
    let a = c.args in
    begins_by a.first a.second a.third a.fourth a.other_second a.other_third a.other_fourth (eq-eqb _ _ c.if-first-ne71.false) (eq-eqb _ _ c.if-second-other_second.false) (ne_eqb _ _ c.if-third-other_third.true) refl

pub returns : goal.returns
returns c =
    let a = c.args in
    begins_by a.first a.second a.third a.fourth a.other_second a.other_third a.other_fourth (eq-eqb _ _ c.if-first-ne71.false) (eq-eqb _ _ c.if-second-other_second.false) (eq-eqb _ _ c.if-third-other_third.false) refl
