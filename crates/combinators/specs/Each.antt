-- A value for each number below a bound, as a list: what stands at its places, and that there is no other such list.
-- Assumes nothing.
use Rattle.std.specs.Prelude.{ℕ, zero, suc, ◌+◌, ◌<◌, List, [], ◌∷◌, ◌++◌, ◌≡◌, refl, length, get_or}
use Rattle.std.proofs.Common.{sym, ap, ◌∙◌, arith, length-append, ext_get_or}
use Rattle.std.proofs.Math.Decide.{ℕ_discrete}
use Rattle.std.proofs.Math.ListN.{get_or-append}
use Rattle.std.proofs.lemmas.List.{get_or_at}

abbrev pub each_below : {A : Type 0} → (ℕ → A) → ℕ → List A
each_below f zero = []
each_below f (suc n) = each_below f n ++ f n ∷ []

module _ {A : Type 0} (f : ℕ → A) where
  pub length_each : (n : ℕ) → length (each_below f n) ≡ n
  length_each zero = refl
  length_each (suc n) = length-append (each_below f n) (f n ∷ []) ∙ ap (λ (k : ℕ). k + 1) (length_each n) ∙ (let s : n + 1 ≡ suc n = omega arith in s)

  pub each_at : (n i : ℕ) (d : A) → i < n → get_or (each_below f n) i d ≡ f i
  each_at zero i d h = absurd (omega arith)
  each_at (suc n) i d h = go (each_at n i d) (ℕ_discrete i n)
    where
      go : (i < n → get_or (each_below f n) i d ≡ f i) → Dec (i ≡ n) → get_or (each_below f n ++ f n ∷ []) i d ≡ f i
      go lower (yes e) = ap (λ (k : ℕ). get_or (each_below f n ++ f n ∷ []) k d) e ∙ get_or_at (each_below f n) (f n) [] d n (length_each n) ∙ ap f (sym e)
      go lower (no e) =
          let inside : i < n = omega arith in
          get_or-append (each_below f n) (f n ∷ []) d i (rw (length_each n) inside) ∙ lower inside

  pub each_only : (l : List A) (n : ℕ) (d : A) → length l ≡ n → ((i : ℕ) → i < n → get_or l i d ≡ f i) → l ≡ each_below f n
  each_only l n d long at =
      ext_get_or d l (each_below f n) (long ∙ sym (length_each n))
      (λ i h. let inside : i < n = rw long at h in at i inside ∙ sym (each_at n i d inside))
