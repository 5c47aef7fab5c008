-- The closure rows counted layer by layer: those of the lowest layer that is left, and those of the others.
-- Assumes nothing.
use Prim.Native.Nat.{ℕ, zero, suc, ◌+◌, ◌-◌, ◌^◌, ◌≤◌, ◌<◌}
use mathlib.Core.Bool.{Bool, true, false, cond, ◌||◌}
use mathlib.Core.List.{List}
use mathlib.Core.Path.{◌≡◌, refl, sym, ap, ◌∙◌}
use native.Mathlib.Omega.{arith}
use borrow.Author.Tests.{eqb-true}
use lib.Dec.{eqb}
use lib.ListN.{length, get_or}
use Rattle.combinators.specs.Below.{count, count_alike, count_short}
use Rattle.combinators.specs.Bools.{both_ways, false_unless}
use Rattle.sets.specs.Sets.{has, lowest, rest}
use Rattle.sets.proofs.Laws.{has_none}
use Rattle.sets.proofs.Members.{has_next, lowest_small, rest_past, rest_within}
use Rattle.row_index.specs.Index.{is_of, Starts}
use Rattle.row_index.proofs.Placing.{start_next}

-- tests that never pass together are counted apart
count_either : (test other : ℕ → Bool) (n : ℕ) → ((k : ℕ) → test k ≡ true → other k ≡ false) → count (λ k. test k || other k) n ≡ count test n + count other n
count_either test other zero apart = refl
count_either test other (suc n) apart = go (test n) refl (other n) refl (count_either test other n apart)
  where
    go : (a : Bool) → test n ≡ a → (b : Bool) → other n ≡ b → count (λ k. test k || other k) n ≡ count test n + count other n
        → cond (a || b) (suc (count (λ k. test k || other k) n)) (count (λ k. test k || other k) n)
        ≡ cond a (suc (count test n)) (count test n) + cond b (suc (count other n)) (count other n)
    go true p true q ih = both_ways q (apart n p)
    go true p false q ih = omega arith
    go false p true q ih = omega arith
    go false p false q ih = ih

-- the rows of some layers
abbrev pub rows_among : List ℕ → ℕ → ℕ
rows_among indices set = count (λ k. has set (get_or indices k 0)) (length indices)

-- so many are counted, and those of the layers that are left are to come
pub record Counted (indices : List ℕ) (closure rows left : ℕ) : Type 0 where
  pub within : left < 2 ^ 64
  pub sum : rows + rows_among indices left ≡ rows_among indices closure

module _ (indices starts : List ℕ) (closure : ℕ) (at : Starts indices starts) where
  pub counted_start : closure < 2 ^ 64 → Counted indices closure 0 closure
  counted_start h = record { within = h; sum = omega arith }

  pub counted_short : (rows left : ℕ) → Counted indices closure rows left → rows ≤ length indices
  counted_short rows left known = omega (arith, known.sum, count_short (λ k. has closure (get_or indices k 0)) (length indices))

  pub counted_end : (rows left : ℕ) → Counted indices closure rows left → left ≡ 0 → rows ≡ rows_among indices closure
  counted_end rows left known e =
      let none : rows_among indices left ≡ 0 =
      count_alike (λ k. has left (get_or indices k 0)) (λ _. false) (length indices) (λ k h. ap (λ (s : ℕ). has s (get_or indices k 0)) e ∙ has_none (get_or indices k 0))
      ∙ never (length indices) in
      omega (arith, known.sum)
    where
      never : (n : ℕ) → count (λ _. false) n ≡ 0
      never zero = refl
      never (suc n) = never n

  module _ (rows left : ℕ) (known : Counted indices closure rows left) (some : left ≡ 0 → ⊥) (layer : ℕ) (is_lowest : layer ≡ lowest left) where
    pub layer_small : layer < 64
    layer_small = let h = lowest_small left known.within some in omega arith

    -- those of the layer lie between two starts
    pub between : get_or starts (layer + 1) 0 ≡ get_or starts layer 0 + count (is_of indices layer) (length indices)
    between = at.starts_at (layer + 1) (let h = layer_small in omega arith) ∙ start_next indices layer
        ∙ ap (λ (n : ℕ). n + count (is_of indices layer) (length indices)) (sym (at.starts_at layer (let h = layer_small in omega arith)))

    parted : rows_among indices left ≡ count (is_of indices layer) (length indices) + rows_among indices (rest left)
    parted =
        count_alike (λ k. has left (get_or indices k 0)) (λ k. is_of indices layer k || has (rest left) (get_or indices k 0)) (length indices)
        (λ k h. has_next left known.within some (get_or indices k 0)
        ∙ ap (λ (l : ℕ). eqb (get_or indices k 0) l || has (rest left) (get_or indices k 0)) (sym is_lowest))
        ∙ count_either (is_of indices layer) (λ k. has (rest left) (get_or indices k 0)) (length indices)
        (λ k e. false_unless (has (rest left) (get_or indices k 0))
        (λ m. (let past = rest_past left (get_or indices k 0) m in let same = eqb-true (get_or indices k 0) layer e in absurd (omega arith))))

    pub counted_next : Counted indices closure (rows + (get_or starts (layer + 1) 0 - get_or starts layer 0)) (rest left)
    counted_next = record { within = rest_within left known.within; sum = omega (arith, known.sum, parted, between) }

    pub next_short : rows + (get_or starts (layer + 1) 0 - get_or starts layer 0) ≤ length indices
    next_short = counted_short (rows + (get_or starts (layer + 1) 0 - get_or starts layer 0)) (rest left) counted_next
