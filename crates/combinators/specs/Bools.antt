-- Tests joined and compared: the few laws of `&&`, `||`, of a test that is not both, and of two tests that agree.
-- Assumes nothing.
use mathlib.Core.Path.{◌≡◌, refl, sym, ◌∙◌}
use Rattle.std.specs.Prelude.{Bool, true, false, cond, ◌&&◌, ◌||◌, ◌⊎◌, T}
use Rattle.std.specs.Bool.{beq}
use Rattle.std.proofs.Common.{true≢false, inl, inr}

pub T_true : (a : Bool) → T a → a ≡ true
T_true true t = refl
T_true false t = absurd t

pub true_T : (a : Bool) → a ≡ true → T a
true_T true e = tt
true_T false e = let z : ◌≡◌ {A = Bool} true false = cc in mathlib.Core.Path.subst T z tt

-- two tests that were compared and found equal
pub agree : (a b : Bool) → T (beq a b) → a ≡ b
agree true true t = refl
agree true false t = absurd t
agree false true t = absurd t
agree false false t = refl

pub both_left : (a b : Bool) → a && b ≡ true → a ≡ true
both_left true b e = refl
both_left false b e = e

pub both_right : (a b : Bool) → a && b ≡ true → b ≡ true
both_right true b e = e
both_right false b e = let z : b ≡ true = cc in z

pub neither_left : (a b : Bool) → a || b ≡ false → a ≡ false
neither_left true b e = e
neither_left false b e = refl

pub neither_right : (a b : Bool) → a || b ≡ false → b ≡ false
neither_right true b e = let z : b ≡ false = cc in z
neither_right false b e = e

pub either_right : (a b : Bool) → b ≡ true → a || b ≡ true
either_right true b p = refl
either_right false b p = p

pub either_left : (a b : Bool) → a ≡ true → a || b ≡ true
either_left a b p = rw p

pub either_which : (a b : Bool) → a || b ≡ true → (a ≡ true) ⊎ (b ≡ true)
either_which true b e = inl refl
either_which false b e = inr e

-- what holds of both ways of a test holds of what it gives; the second may rest on the test having failed
pub either_way : {A : Type 0} (P : A → Type 0) (test : Bool) (x y : A) → P x → P y → P (cond test x y)
either_way P true x y p q = p
either_way P false x y p q = q

pub or_else : {A : Type 0} (P : A → Type 0) (test : Bool) (x y : A) → P x → (test ≡ false → P y) → P (cond test x y)
or_else P true x y p q = p
or_else P false x y p q = q refl

-- two tests that pass together are one
pub same_test : (a b : Bool) → (a ≡ true → b ≡ true) → (b ≡ true → a ≡ true) → a ≡ b
same_test true b f g = sym (f refl)
same_test false true f g = g refl
same_test false false f g = refl

-- a test is not both true and false
pub apart : {A : Type 0} → false ≡ true → A
apart e = absurd (true≢false (sym e))

pub both_ways : {A : Type 0} {b : Bool} → b ≡ true → b ≡ false → A
both_ways p q = absurd (true≢false (sym p ∙ q))

-- a test that is not true is false
pub false_unless : (b : Bool) → (b ≡ true → ⊥) → b ≡ false
false_unless true f = absurd (f refl)
false_unless false f = refl
