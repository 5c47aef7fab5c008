-- There is one list at the most of all numbers of which something holds, in an order in which no two come before one another: `in_order_one`.
-- Assumes nothing.
use Prim.Native.Nat.{ℕ, zero, suc, ◌<◌}
use mathlib.Core.List.{List, [], ◌∷◌}
use mathlib.Core.Path.{◌≡◌, refl, sym, ap₂, subst}
use native.Mathlib.Omega.{arith}
use lib.ListN.{length, get_or}
use Rattle.unit_lists.specs.Meaning.{AllInOrder}

module _ (Before : ℕ → ℕ → Type 0) (never_itself : (k : ℕ) → Before k k → ⊥) where
  -- the others are those that differ from the first
  past_first : (P : ℕ → Type 0) (x : ℕ) (xs : List ℕ) → AllInOrder P Before (x ∷ xs) → AllInOrder (λ n. P n × (n ≡ x → ⊥)) Before xs
  past_first P x xs a =
      record {
        each = λ i h. (
          a.each (suc i) (omega arith),
          λ e. never_itself x (subst (Before x) e (a.in_order 0 (suc i) (omega arith) (omega arith))),
        );
        all = λ n p. go n p.1 (a.all n p.0);
        in_order = λ i j h l. a.in_order (suc i) (suc j) (omega arith) (omega arith);
      }
    where
      go : (n : ℕ) → (n ≡ x → ⊥) → (i : ℕ) × (i < suc (length xs)) × (get_or (x ∷ xs) i 0 ≡ n) → (i : ℕ) × (i < length xs) × (get_or xs i 0 ≡ n)
      go n other (zero, h, e) = absurd (other (sym e))
      go n other (suc i, h, e) = (i, omega arith, e)

  -- the first of one is the first of another
  first_one : (P : ℕ → Type 0) → ((i j : ℕ) → P i → P j → Before i j → Before j i → ⊥) → (x y : ℕ) (xs ys : List ℕ)
      → AllInOrder P Before (x ∷ xs) → AllInOrder P Before (y ∷ ys) → y ≡ x
  first_one P not-both x y xs ys a b = go (a.all y (b.each 0 (omega arith))) (b.all x (a.each 0 (omega arith)))
    where
      go : (i : ℕ) × (i < suc (length xs)) × (get_or (x ∷ xs) i 0 ≡ y) → (j : ℕ) × (j < suc (length ys)) × (get_or (y ∷ ys) j 0 ≡ x) → y ≡ x
      go (zero, h, e) v = sym e
      go (suc i, h, e) (zero, l, d) = d
      go (suc i, h, e) (suc j, l, d) =
          absurd (not-both x y (a.each 0 (omega arith)) (b.each 0 (omega arith)) (subst (Before x) e (a.in_order 0 (suc i) (omega arith) h))
          (subst (Before y) d (b.in_order 0 (suc j) (omega arith) l)))

  pub in_order_one : (P : ℕ → Type 0) → ((i j : ℕ) → P i → P j → Before i j → Before j i → ⊥) → (xs ys : List ℕ) → AllInOrder P Before xs
      → AllInOrder P Before ys → xs ≡ ys
  in_order_one P not-both [] [] a b = refl
  in_order_one P not-both [] (y ∷ ys) a b = let w = a.all y (b.each 0 (omega arith)) in absurd (omega (arith, w.1))
  in_order_one P not-both (x ∷ xs) [] a b = let w = b.all x (a.each 0 (omega arith)) in absurd (omega (arith, w.1))
  in_order_one P not-both (x ∷ xs) (y ∷ ys) a b =
      let same = first_one P not-both x y xs ys a b in
      ap₂ (λ (z : ℕ) (zs : List ℕ). z ∷ zs) (sym same)
      (in_order_one (λ n. P n × (n ≡ x → ⊥)) (λ i j p q. not-both i j p.0 q.0) xs ys (past_first P x xs a)
      (subst (λ (z : ℕ). AllInOrder (λ n. P n × (n ≡ z → ⊥)) Before ys) same (past_first P y ys b)))
