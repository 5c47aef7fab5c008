-- Arrays filled from the front: a list, and after it as many blanks as the array has room for.
-- Assumes nothing.
use Rattle.std.specs.Prelude.{ℕ, zero, suc, ◌-◌, ◌≤◌, ◌<◌, ◌≡◌, refl, List, [], ◌∷◌, ◌++◌, length, get_or, set, replicate}
use Rattle.std.proofs.Common.{append_assoc, arith, length-append}
use Rattle.std.proofs.lemmas.List.{length-replicate, set_at}
use Rattle.std.proofs.Math.ListN.{get_or-append}

module _ {A : Type 0} where
  abbrev pub pad_to : ℕ → A → List A → List A
  pad_to n blank l = l ++ replicate (n - length l) blank

  pub length_pad_to : (n : ℕ) (blank : A) (l : List A) → length l ≤ n → length (pad_to n blank l) ≡ n
  length_pad_to n blank l h = simp (length-append, length-replicate) (omega arith)

  -- what stands in the filled part
  pub get_d_pad_to : (n : ℕ) (blank : A) (l : List A) (i : ℕ) (d : A) → i < length l → get_or (pad_to n blank l) i d ≡ get_or l i d
  get_d_pad_to n blank l i d h = get_or-append l (replicate (n - length l) blank) d i h

  -- storing at the count appends
  pub store_pad_to : (n : ℕ) (blank x : A) (l : List A) (i : ℕ) → length l ≡ i → i < n
      → set (pad_to n blank l) i x ≡ pad_to n blank (l ++ x ∷ [])
  store_pad_to n blank x l i e h = go (n - length l) refl
    where
      go : (r : ℕ) → n - length l ≡ r → set (pad_to n blank l) i x ≡ pad_to n blank (l ++ x ∷ [])
      go zero p = absurd (omega arith)
      go (suc r) p =
          let q : n - length (l ++ x ∷ []) ≡ r = simp (length-append l (x ∷ [])) (omega arith) in
          rw (p, q, append_assoc l (x ∷ []) (replicate r blank)) (set_at l blank (replicate r blank) x i e)
