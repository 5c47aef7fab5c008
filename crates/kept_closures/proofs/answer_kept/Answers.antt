-- `answer_kept` meets its contract: the cases of the definition, by the tests.
-- Assumes nothing.
use Prim.Native.Nat.{◌<◌}
use mathlib.Core.Bool.{Bool, ◌&&◌}
use mathlib.Core.Path.{sym, ap, ap₂, ◌∙◌}
use native.Mathlib.Omega.{arith}
use borrow.Author.Tests.{lt-ltb, le-ltb}
use Rattle.sets.specs.Sets.{has, lowest}
use Rattle.kept_closures.proofs.Answered.{not_there, one_absent_there, all_there}
use Rattle.kept_closures.proofs.answer_kept.Goals as goal

pub returns-then-target-ge64 : goal.returns-then-target-ge64
returns-then-target-ge64 c =
    let a = c.args in
    not_there a.present a.closures.now a.absents.now a.target (ap (λ (b : Bool). b && has a.present a.target) (le-ltb a.target 64 c.if-target-ge64.true))

pub returns-then-not-member : goal.returns-then-not-member
returns-then-not-member c =
    let a = c.args in
    let inside : a.target < 64 = omega arith in
    not_there a.present a.closures.now a.absents.now a.target (ap₂ ◌&&◌ (lt-ltb a.target 64 inside) (sym c.member.ensures ∙ c.if-not-member.true))

pub returns-then-absents-index : goal.returns-then-absents-index
returns-then-absents-index c =
    let a = c.args in
    let inside : a.target < 64 = omega arith in
    let there = sym c.member.ensures ∙ c.if-not-member.false in
    one_absent_there a.present a.closures.now a.absents.now a.target inside there c.lowest-missing.result (c.lowest-missing.ensures ∙ ap lowest c.without.ensures) c.if-absents-index.true

pub returns : goal.returns
returns c =
    let a = c.args in
    let inside : a.target < 64 = omega arith in
    let there = sym c.member.ensures ∙ c.if-not-member.false in
    all_there a.present a.closures.now a.absents.now a.target inside there c.if-absents-index.false
