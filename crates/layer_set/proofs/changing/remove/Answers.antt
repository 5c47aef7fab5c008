-- `remove` meets its contract: by whether the set has a layer of the index.
-- Assumes nothing.
use Prim.Native.Nat.{◌<◌}
use mathlib.Core.Bool.{Bool, ◌&&◌}
use mathlib.Core.Path.{sym, ap, ap₂, ◌∙◌}
use native.Mathlib.Omega.{arith}
use borrow.Author.Tests.{lt-ltb, le-ltb}
use Rattle.sets.specs.Sets.{has}
use Rattle.layer_set.proofs.Parts.{no_layer_case, removed_case}
use Rattle.layer_set.proofs.changing.remove.Goals as goal

pub returns-then-index-ge64 : goal.returns-then-index-ge64
returns-then-index-ge64 c =
    let a = c.args in
    no_layer_case a.«set» a.index (ap (λ (b : Bool). b && has a.«set».layers.present a.index) (le-ltb a.index 64 c.if-index-ge64.true))

pub returns-then-not-member : goal.returns-then-not-member
returns-then-not-member c =
    let a = c.args in
    let inside : a.index < 64 = omega arith in
    no_layer_case a.«set» a.index (ap₂ ◌&&◌ (lt-ltb a.index 64 inside) (sym c.member.ensures ∙ c.if-not-member.true))

pub returns : goal.returns
returns c =
    let a = c.args in
    let inside : a.index < 64 = omega arith in
    removed_case a.«set» a.index c.without_layer-after.result
    (ap₂ ◌&&◌ (lt-ltb a.index 64 inside) (sym c.member.ensures ∙ c.if-not-member.false))
    c.without_layer-after.ensures
