-- The numbers below a bound that pass a test, as a list that rises.
-- Assumes nothing.
use Rattle.std.specs.Prelude.{ℕ, zero, suc, ◌+◌, ◌≤◌, ◌<◌, ◌≡◌, refl, Bool, true, false, cond, List, [], ◌∷◌, ◌++◌, length, get_or}
use Rattle.std.proofs.Common.{sym, ◌∙◌, ap, true≢false, append-nil, arith, eq-or-lt_of_le, not-suc-le-zero, le_of_suc-le-suc, add-one, length-append}
use mathlib.Core.Logic.{⊎_elim}
use Rattle.std.proofs.Math.Decide.{dec_lt}
use Rattle.std.proofs.Math.ListN.{get_or-append}
use Rattle.std.proofs.lemmas.List.{get_or_at}
use Rattle.combinators.specs.Below.{count}

abbrev pub those : (ℕ → Bool) → ℕ → List ℕ
those test zero = []
those test (suc n) = those test n ++ cond (test n) (n ∷ []) []

-- tests that agree below n pass the same numbers
pub those_alike : (test other : ℕ → Bool) (n : ℕ) → ((k : ℕ) → k < n → test k ≡ other k) → those test n ≡ those other n
those_alike test other zero f = refl
those_alike test other (suc n) f = rw (those_alike test other n (λ k h. f k (omega arith)), f n (omega arith))

module _ (test : ℕ → Bool) where
  -- one number more: it is added at the end where it passes
  one_more : (n : ℕ) → test n ≡ true → those test (suc n) ≡ those test n ++ n ∷ []
  one_more n e = rw e

  no_more : (n : ℕ) → test n ≡ false → those test (suc n) ≡ those test n
  no_more n e = rw (e, append-nil (those test n))

  pub those_more : (n : ℕ) → test n ≡ true → those test (n + 1) ≡ those test n ++ n ∷ []
  those_more n e = rw (add-one n) (one_more n e)

  pub those_same : (n : ℕ) → test n ≡ false → those test (n + 1) ≡ those test n
  those_same n e = rw (add-one n) (no_more n e)

  -- as many as pass
  pub length_those : (n : ℕ) → length (those test n) ≡ count test n
  length_those zero = refl
  length_those (suc n) = go (test n) refl (length_those n)
    where
      go : (b : Bool) → test n ≡ b → length (those test n) ≡ count test n → length (those test (suc n)) ≡ count test (suc n)
      go true p ih = rw (p, length-append (those test n) (n ∷ []), ih) (omega arith)
      go false p ih = rw (p, append-nil (those test n), ih)

  -- no more than there are numbers
  pub those_short : (n : ℕ) → length (those test n) ≤ n
  those_short zero = omega arith
  those_short (suc n) = go (test n) refl (those_short n)
    where
      go : (b : Bool) → test n ≡ b → length (those test n) ≤ n → length (those test (suc n)) ≤ suc n
      go true p ih = rw (p, length-append (those test n) (n ∷ [])) (omega arith)
      go false p ih = rw (p, append-nil (those test n)) (omega arith)

  -- each is below the bound, and passes
  pub record Passing (n k : ℕ) : Type 0 where
    pub below : k < n
    pub passes : test k ≡ true

  pub those_at : (n p : ℕ) → p < length (those test n) → Passing n (get_or (those test n) p 0)
  those_at zero p h = absurd (not-suc-le-zero h)
  those_at (suc n) p h = go (test n) refl (those_at n p) (dec_lt p (length (those test n)))
    where
      go : (b : Bool) → test n ≡ b → (p < length (those test n) → Passing n (get_or (those test n) p 0)) → Dec (p < length (those test n))
          → Passing (suc n) (get_or (those test (suc n)) p 0)
      go true e ih (yes l) =
          let w = ih l in
          rw (one_more n e, get_or-append (those test n) (n ∷ []) 0 p l) (record { below = omega (arith, w.below); passes = w.passes })
      go true e ih (no l) =
          let last : length (those test n) ≡ p = (let long = ap length (one_more n e) ∙ length-append (those test n) (n ∷ []) in omega arith) in
          rw (one_more n e, get_or_at (those test n) n [] 0 p last) (record { below = omega arith; passes = e })
      go false e ih (yes l) =
          let w = ih l in
          rw (no_more n e) (record { below = omega (arith, w.below); passes = w.passes })
      go false e ih (no l) = absurd (let same = ap length (no_more n e) in omega arith)

  -- each number below the bound that passes is among them
  pub those_which : (n k : ℕ) → k < n → test k ≡ true → (p : ℕ) × (p < length (those test n)) × (get_or (those test n) p 0 ≡ k)
  those_which zero k h e = absurd (not-suc-le-zero h)
  those_which (suc n) k h e = go (test n) refl (eq-or-lt_of_le (le_of_suc-le-suc h)) (those_which n k)
    where
      go : (b : Bool) → test n ≡ b → mathlib.Core.Logic.◌⊎◌ (k ≡ n) (k < n)
          → (k < n → test k ≡ true → (p : ℕ) × (p < length (those test n)) × (get_or (those test n) p 0 ≡ k))
          → (p : ℕ) × (p < length (those test (suc n))) × (get_or (those test (suc n)) p 0 ≡ k)
      go true q (mathlib.Core.Logic.inl s) ih = (
        length (those test n),
        (let long = ap length (one_more n q) ∙ length-append (those test n) (n ∷ []) in omega arith),
        rw (one_more n q) (get_or_at (those test n) n [] 0 (length (those test n)) refl ∙ sym s),
      )
      go false q (mathlib.Core.Logic.inl s) ih = absurd (true≢false (sym e ∙ rw s q))
      go true q (mathlib.Core.Logic.inr l) ih =
          let w = ih l e in (
            w.0,
            (let long = ap length (one_more n q) ∙ length-append (those test n) (n ∷ []) in omega (arith, w.1)),
            rw (one_more n q) (get_or-append (those test n) (n ∷ []) 0 w.0 w.1 ∙ w.2),
          )
      go false q (mathlib.Core.Logic.inr l) ih =
          let w = ih l e in
          (w.0, (let same = ap length (no_more n q) in omega (arith, w.1)), rw (no_more n q) w.2)

  -- they rise
  pub those_rise : (n p q : ℕ) → p < q → q < length (those test n) → get_or (those test n) p 0 < get_or (those test n) q 0
  those_rise zero p q h l = absurd (not-suc-le-zero l)
  those_rise (suc n) p q h l = go (test n) refl (those_rise n p q h) (dec_lt q (length (those test n)))
    where
      go : (b : Bool) → test n ≡ b → (q < length (those test n) → get_or (those test n) p 0 < get_or (those test n) q 0)
          → Dec (q < length (those test n)) → get_or (those test (suc n)) p 0 < get_or (those test (suc n)) q 0
      go true e ih (yes s) =
          rw (one_more n e, get_or-append (those test n) (n ∷ []) 0 q s, get_or-append (those test n) (n ∷ []) 0 p (omega arith)) (ih s)
      go true e ih (no s) =
          let last : length (those test n) ≡ q = (let long = ap length (one_more n e) ∙ length-append (those test n) (n ∷ []) in omega arith) in
          let inside : p < length (those test n) = omega arith in
          rw (one_more n e, get_or_at (those test n) n [] 0 q last, get_or-append (those test n) (n ∷ []) 0 p inside) (those_at n p inside).below
      go false e ih (yes s) = rw (no_more n e) (ih s)
      go false e ih (no s) = absurd (let same = ap length (no_more n e) in omega arith)

  -- as many pass before each as stand before it in the list
  pub those_rank : (n p : ℕ) → p < length (those test n) → count test (get_or (those test n) p 0) ≡ p
  those_rank zero p h = absurd (not-suc-le-zero h)
  those_rank (suc n) p h = go (test n) refl (those_rank n p) (dec_lt p (length (those test n)))
    where
      go : (b : Bool) → test n ≡ b → (p < length (those test n) → count test (get_or (those test n) p 0) ≡ p) → Dec (p < length (those test n))
          → count test (get_or (those test (suc n)) p 0) ≡ p
      go true e ih (yes l) = rw (one_more n e, get_or-append (those test n) (n ∷ []) 0 p l) (ih l)
      go true e ih (no l) =
          let last : length (those test n) ≡ p = (let long = ap length (one_more n e) ∙ length-append (those test n) (n ∷ []) in omega arith) in
          rw (one_more n e, get_or_at (those test n) n [] 0 p last) (sym (length_those n) ∙ last)
      go false e ih (yes l) = rw (no_more n e) (ih l)
      go false e ih (no l) = absurd (let same = ap length (no_more n e) in omega arith)

  -- a lower one comes earlier
  pub those_earlier : (n i j : ℕ) → i < length (those test n) → j < length (those test n) → get_or (those test n) j 0 < get_or (those test n) i 0 → j < i
  those_earlier n i j h l k = go (dec_lt j i) (dec_lt i j)
    where
      go : Dec (j < i) → Dec (i < j) → j < i
      go (yes s) d = s
      go (no s) (yes d) = absurd (let rise = those_rise n i j d l in omega arith)
      go (no s) (no d) = absurd (let same : i ≡ j = omega arith in let eq = ap (λ (m : ℕ). get_or (those test n) m 0) same in omega arith)
