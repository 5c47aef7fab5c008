-- `continuity::ordinary_after` meets its contract: the first test that fails settles the answer. Assumes nothing.
use borrow.Author.Tests.{lt-ltb, le-ltb}
use Prim.Native.Nat.{ℕ}
use mathlib.Core.Path.{sym, ap, ◌∙◌}
use mathlib.Core.Bool.{Bool, ◌&&◌}
use lib.Dec.{eqb}
use Rattle.continuity.specs.Following.{ordinary_fourth}
use Rattle.continuity.proofs.ordinary_after.Goals as goal

pub returns-then-second-ge64 : goal.returns-then-second-ge64
returns-then-second-ge64 c =
    let a = c.args in
    sym (ap (λ (t : Bool). t && eqb a.fourth (ordinary_fourth a.before)) (le-ltb _ _ c.if-second-ge64.true))

pub returns : goal.returns
returns c =
    let a = c.args in
    ap (λ (n : ℕ). eqb a.fourth n) c.ordinary_fourth.ensures
    ∙ sym (ap (λ (t : Bool). t && eqb a.fourth (ordinary_fourth a.before)) (lt-ltb _ _ c.if-second-ge64.false))
