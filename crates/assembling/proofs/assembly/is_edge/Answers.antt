-- `assembling::assembly::is_edge` meets its contract: each way of the code decides the tests of the definition up to its own.
-- Assumes nothing.
use Prim.Native.Nat.{ℕ}
use mathlib.Core.Bool.{Bool, true, false, ◌&&◌}
use mathlib.Core.Path.{◌≡◌, sym, ◌∙◌, ap}
use borrow.Author.Tests.{lt-ltb, le-ltb}
use lib.Dec.{ltb}
use Rattle.sets.specs.Sets.{has}
use Rattle.assembling.specs.Assemblies.{joins}
use Rattle.assembling.proofs.assembly.is_edge.Goals as goal

-- the three tests, one after the other
outside : (closure embedded upper lower : ℕ) → has closure upper ≡ false → false ≡ joins closure embedded upper lower
outside closure embedded upper lower e = sym (ap (λ (b : Bool). b && (ltb lower upper && has embedded lower)) e)

inside : (closure embedded upper lower : ℕ) → has closure upper ≡ true → (b : Bool) → ltb lower upper ≡ b
    → (b && has embedded lower) ≡ joins closure embedded upper lower
inside closure embedded upper lower e b l =
    ap (λ (b : Bool). b && has embedded lower) (sym l) ∙ sym (ap (λ (b : Bool). b && (ltb lower upper && has embedded lower)) e)

pub returns-then-not-member : goal.returns-then-not-member
returns-then-not-member c =
    let a = c.args in
    outside a.closure a.embedded a.upper a.lower (sym c.member.ensures ∙ c.if-not-member.true)

pub returns-then-upper-lower : goal.returns-then-upper-lower
returns-then-upper-lower c =
    let a = c.args in
    inside a.closure a.embedded a.upper a.lower (sym c.member.ensures ∙ c.if-not-member.false) false (le-ltb _ _ c.if-upper-lower.true)

pub returns : goal.returns
returns c =
    let a = c.args in
    c.member-2.ensures
    ∙ inside a.closure a.embedded a.upper a.lower (sym c.member.ensures ∙ c.if-not-member.false) true (lt-ltb _ _ c.if-upper-lower.false)
