-- Lists in which no number stands twice. Such a list of numbers below a bound is no longer than the bound: `once_short`.
-- Assumes nothing.
use Rattle.std.specs.Prelude.{ℕ, zero, suc, ◌≤◌, ◌<◌, ◌≡◌, refl, Bool, true, false, cond, ◌||◌, List, [], ◌∷◌, ◌++◌, ◌⊎◌, eqb, length, get_or}
use Rattle.std.proofs.Common.{sym, ◌∙◌, ap, inl, inr, arith, eq-or-lt_of_le, not-suc-le-zero, le_of_suc-le-suc, eq-eqb, ne_eqb}
use Rattle.std.proofs.lemmas.Bool.{eqb-false}
use Rattle.combinators.specs.Bools.{neither_left, neither_right}
use Rattle.combinators.specs.Below.{count, count_short, count_alike}
use Rattle.combinators.specs.Lists.{any}
use Rattle.combinators.specs.Members.{member, member_append, member_which}

abbrev pub Once : List ℕ → Type 0
Once [] = Unit {0}
Once (x ∷ xs) = (member x xs ≡ false) × Once xs

-- what stands at two places differs
pub once_places : (l : List ℕ) → ((i j : ℕ) → i < j → j < length l → get_or l i 0 ≡ get_or l j 0 → ⊥) → Once l
once_places [] differ = tt
once_places (x ∷ xs) differ = (
  absent (member x xs) refl,
  once_places xs (λ i j h l. differ (suc i) (suc j) (omega arith) (omega arith)),
)
  where
    absent : (b : Bool) → member x xs ≡ b → member x xs ≡ false
    absent true e = let w = member_which x xs e in absurd (differ 0 (suc w.0) (omega arith) (omega (arith, w.1)) (sym w.2))
    absent false e = e

-- ---- two lists one after another

-- numbers below a bound
abbrev pub Small : ℕ → List ℕ → Type 0
Small n l = (i : ℕ) → i < length l → get_or l i 0 < n

pub small_append : (n : ℕ) (a b : List ℕ) → Small n a → Small n b → Small n (a ++ b)
small_append n [] b p q i h = q i h
small_append n (x ∷ a) b p q zero h = p 0 (omega arith)
small_append n (x ∷ a) b p q (suc i) h = small_append n a b (λ j l. p (suc j) (omega arith)) q i (le_of_suc-le-suc h)

-- and lists in which no number stands twice, which have none in common

none_common : (y : ℕ) (a b : List ℕ) → any (λ x. eqb x y || member x a) b ≡ false → (member y b ≡ false) × (any (λ x. member x a) b ≡ false)
none_common y a [] e = (refl, refl)
none_common y a (x ∷ b) e =
    let first = neither_left (eqb x y || member x a) (any (λ z. eqb z y || member z a) b) e in
    let rest = none_common y a b (neither_right (eqb x y || member x a) (any (λ z. eqb z y || member z a) b) e) in
    let other = eqb-false x y (neither_left (eqb x y) (member x a) first) in (
      rw (ne_eqb y x (λ p. other (sym p))) rest.0,
      rw (neither_right (eqb x y) (member x a) first) rest.1,
    )

pub once_append : (a b : List ℕ) → Once a → Once b → any (λ x. member x a) b ≡ false → Once (a ++ b)
once_append [] b p q e = q
once_append (y ∷ a) b p q e =
    let apart = none_common y a b e in (
      member_append y a b ∙ rw p.0 apart.0,
      once_append a b p.1 q apart.1,
    )

-- ---- how long such a list is

count_none : (n : ℕ) → count (λ k. false) n ≡ 0
count_none zero = refl
count_none (suc n) = count_none n

-- one number more that passes
count_one : (test : ℕ → Bool) (x n : ℕ) → x < n → test x ≡ false → count (λ k. eqb k x || test k) n ≡ suc (count test n)
count_one test x zero h e = absurd (not-suc-le-zero h)
count_one test x (suc n) h e = go (eq-or-lt_of_le (le_of_suc-le-suc h)) (count_one test x n)
  where
    go : (x ≡ n) ⊎ (x < n) → (x < n → test x ≡ false → count (λ k. eqb k x || test k) n ≡ suc (count test n))
        → count (λ k. eqb k x || test k) (suc n) ≡ suc (count test (suc n))
    go (inl p) before =
        let last : test n ≡ false = rw (← p) e in
        let same : count (λ k. eqb k x || test k) n ≡ count test n =
        count_alike (λ k. eqb k x || test k) test n (λ k l. ap (λ (b : Bool). b || test k) (ne_eqb k x (λ q. absurd (omega arith)))) in
        rw (eq-eqb n x (sym p), last) (ap suc same)
    go (inr l) before =
        rw (ne_eqb n x (λ q. absurd (omega arith))) (step (test n) (before l e))
      where
        step : (b : Bool) → count (λ k. eqb k x || test k) n ≡ suc (count test n)
            → cond b (suc (count (λ k. eqb k x || test k) n)) (count (λ k. eqb k x || test k) n) ≡ suc (cond b (suc (count test n)) (count test n))
        step true i = ap suc i
        step false i = i

-- as many numbers below the bound are members as the list has places
pub once_count : (l : List ℕ) (n : ℕ) → Once l → Small n l → count (λ k. member k l) n ≡ length l
once_count [] n p small = count_none n
once_count (x ∷ xs) n p small =
    count_one (λ k. member k xs) x n (small 0 (omega arith)) p.0
    ∙ ap suc (once_count xs n p.1 (λ i h. small (suc i) (omega arith)))

-- NO NUMBER TWICE, ALL BELOW A BOUND: no more places than the bound.
pub once_short : (l : List ℕ) (n : ℕ) → Once l → Small n l → length l ≤ n
once_short l n p small = omega (arith, once_count l n p small, count_short (λ k. member k l) n)
