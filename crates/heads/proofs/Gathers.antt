-- What is gathered from a list: which numbers it has; and from the rows that pass a test: from one row more, and from all of them.
-- Assumes nothing.
use Prim.Native.Nat.{ℕ, zero, suc, ◌+◌, ◌<◌}
use mathlib.Core.Path.{◌≡◌, refl, sym, ◌∙◌, ap}
use mathlib.Core.Bool.{Bool, true, false, true≢false}
use mathlib.Core.List.{List, [], ◌∷◌, ◌++◌, append-nil, append_assoc}
use mathlib.Core.Logic.{◌⊎◌, inl, inr}
use native.Mathlib.Nat.{add-zero, add-suc}
use native.Mathlib.Numerals.{add-one}
use native.Mathlib.Omega.{arith}
use lib.ListN.{length, get_or}
use Rattle.combinators.specs.Bools.{either_left, either_right, either_which}
use Rattle.combinators.specs.Lists.{gather, gather_append}
use Rattle.combinators.specs.Members.{member, member_append}
use Rattle.combinators.specs.Those.{those, those_more, those_same}

-- ---- from a list

pub gathered_from : (g : ℕ → List ℕ) (x : ℕ) (l : List ℕ) → member x (gather g l) ≡ true → (i : ℕ) × (i < length l) × (member x (g (get_or l i 0)) ≡ true)
gathered_from g x [] e = absurd (true≢false (sym e))
gathered_from g x (k ∷ l) e = go (either_which (member x (g k)) (member x (gather g l)) (sym (member_append x (g k) (gather g l)) ∙ e)) (gathered_from g x l)
  where
    go : (member x (g k) ≡ true) ⊎ (member x (gather g l) ≡ true)
        → (member x (gather g l) ≡ true → (i : ℕ) × (i < length l) × (member x (g (get_or l i 0)) ≡ true))
        → (i : ℕ) × (i < suc (length l)) × (member x (g (get_or (k ∷ l) i 0)) ≡ true)
    go (inl h) later = (0, omega arith, h)
    go (inr h) later = let w = later h in (suc w.0, omega (arith, w.1), w.2)

pub gathered_in : (g : ℕ → List ℕ) (x : ℕ) (l : List ℕ) (i : ℕ) → i < length l → member x (g (get_or l i 0)) ≡ true → member x (gather g l) ≡ true
gathered_in g x [] i h e = absurd (omega arith)
gathered_in g x (k ∷ l) zero h e = member_append x (g k) (gather g l) ∙ either_left (member x (g k)) (member x (gather g l)) e
gathered_in g x (k ∷ l) (suc i) h e =
    member_append x (g k) (gather g l) ∙ either_right (member x (g k)) (member x (gather g l)) (gathered_in g x l i (omega arith) e)

-- ---- from the rows that pass a test

module _ {A : Type 0} (g : ℕ → List A) (test : ℕ → Bool) where
  -- one row more
  pub gathered_more : (k : ℕ) → test k ≡ true → gather g (those test (k + 1)) ≡ gather g (those test k) ++ g k
  gathered_more k e =
      ap (gather g) (those_more test k e)
      ∙ gather_append g (those test k) (k ∷ [])
      ∙ ap (λ (l : List A). gather g (those test k) ++ l) (append-nil (g k))

  pub gathered_same : (k : ℕ) → test k ≡ false → gather g (those test (k + 1)) ≡ gather g (those test k)
  gathered_same k e = ap (gather g) (those_same test k e)

  -- what is gathered from more rows has it for its front
  pub gathered_rest : (k more : ℕ) → (rest : List A) × (gather g (those test (k + more)) ≡ gather g (those test k) ++ rest)
  gathered_rest k zero = ([], ap (λ (n : ℕ). gather g (those test n)) (add-zero k) ∙ sym (append-nil (gather g (those test k))))
  gathered_rest k (suc more) = go (test (k + more)) refl (gathered_rest k more)
    where
      next : gather g (those test (k + suc more)) ≡ gather g (those test (k + more + 1))
      next = ap (λ (n : ℕ). gather g (those test n)) (add-suc k more ∙ sym (add-one (k + more)))

      go : (b : Bool) → test (k + more) ≡ b → (rest : List A) × (gather g (those test (k + more)) ≡ gather g (those test k) ++ rest)
          → (rest : List A) × (gather g (those test (k + suc more)) ≡ gather g (those test k) ++ rest)
      go true e w = (
        w.0 ++ g (k + more),
        next
            ∙ gathered_more (k + more) e
            ∙ ap (λ (l : List A). l ++ g (k + more)) w.1
            ∙ append_assoc (gather g (those test k)) w.0 (g (k + more)),
      )
      go false e w = (w.0, next ∙ gathered_same (k + more) e ∙ w.1)
