-- Bytes compared place by place: how the count of differences grows, and what it is to have none.
-- Assumes nothing.
use Prim.Native.Nat.{ℕ, zero, suc, ◌+◌, ◌≤◌, ◌<◌}
use mathlib.Core.Path.{◌≡◌, refl, sym, ap, ◌∙◌}
use mathlib.Core.Bool.{Bool, true, false, cond, not}
use mathlib.Core.List.{List}
use native.Mathlib.Nat.{add-zero}
use native.Mathlib.Omega.{arith}
use borrow.Author.Tests.{eqb-true, eq-eqb, not-false}
use lib.Dec.{eqb}
use lib.ListN.{length, get_or}
use Rattle.combinators.specs.Below.{count, count_more, count_same, count_less}
use Rattle.combinators.specs.Bools.{false_unless}
use Rattle.continuity.specs.Following.{differs, difference_of, same_bytes}

pub difference_small : (one other : ℕ) → difference_of one other ≤ 1
difference_small one other = by_test (eqb one other)
  where
    by_test : (t : Bool) → cond t 0 1 ≤ 1
    by_test true = omega arith
    by_test false = omega arith

module _ (a b : List ℕ) where
  -- one place more
  pub counted_next : (i : ℕ) → count (differs a b) (i + 1) ≡ count (differs a b) i + difference_of (get_or a i 0) (get_or b i 0)
  counted_next i = by_test (eqb (get_or a i 0) (get_or b i 0)) refl
    where
      by_test : (t : Bool) → eqb (get_or a i 0) (get_or b i 0) ≡ t → count (differs a b) (i + 1) ≡ count (differs a b) i + cond t 0 1
      by_test true e = count_same (differs a b) i (ap not e) ∙ sym (add-zero (count (differs a b) i))
      by_test false e = count_more (differs a b) i (ap not e)

  -- no differences: the same byte at each place
  none_counted : (n : ℕ) → count (differs a b) n ≡ 0 → (i : ℕ) → i < n → get_or a i 0 ≡ get_or b i 0
  none_counted n e i h =
      eqb-true (get_or a i 0) (get_or b i 0)
      (not-false (eqb (get_or a i 0) (get_or b i 0))
      (false_unless (differs a b i) (λ (d : differs a b i ≡ true). omega (arith, count_less (differs a b) i n h d))))

  counted_none : (n : ℕ) → ((i : ℕ) → i < n → get_or a i 0 ≡ get_or b i 0) → count (differs a b) n ≡ 0
  counted_none zero same = refl
  counted_none (suc n) same =
      rw (eq-eqb (get_or a n 0) (get_or b n 0) (same n (omega arith))) (counted_none n (λ i h. same i (omega arith)))

  pub same_at : same_bytes a b ≡ true → (i : ℕ) → i < length a → get_or a i 0 ≡ get_or b i 0
  same_at e i h = none_counted (length a) (eqb-true (count (differs a b) (length a)) 0 e) i h

  pub at_same : ((i : ℕ) → i < length a → get_or a i 0 ≡ get_or b i 0) → same_bytes a b ≡ true
  at_same same = eq-eqb (count (differs a b) (length a)) 0 (counted_none (length a) same)
