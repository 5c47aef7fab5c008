-- One unit laid into the lists: what is left of it, stored from here on in the lists as they are, gives the whole unit stored.
-- Assumes nothing.
use Prim.Native.Nat.{ℕ, suc, ◌+◌, ◌-◌, ◌≤◌, ◌<◌}
use mathlib.Core.List.{List, []}
use mathlib.Core.Path.{◌≡◌, refl, sym, ◌∙◌, ap, ap₂}
use native.Mathlib.Numerals.{add-one}
use native.Mathlib.Omega.{arith}
use lib.IntN.{ℤ}
use lib.ListN.{length, get_or, set, length-set}
use lib.Seq.{sets, slice, slice-cons, slice_empty}
use Rattle.clock.specs.Clock.{lag_of}
use Rattle.rows.specs.Table.{Table, decoding_of}
use Rattle.heads.specs.Units.{lags_from}

module _ (t : Table) (kept : List ℕ) (time first end at : ℕ) (numbers₀ : List ℕ) (lags₀ : List ℤ) where
  pub record Laying (from next : ℕ) (numbers : List ℕ) (lags : List ℤ) : Type 0 where
    pub from_first : first ≤ from
    pub within : from ≤ end
    pub place : next ≡ at + (from - first)
    pub long_numbers : length numbers ≡ length numbers₀
    pub long_lags : length lags ≡ length lags₀
    pub content : sets numbers next (slice from end kept) ≡ sets numbers₀ at (slice first end kept)
    pub beside : sets lags next (lags_from t time (slice from end kept)) ≡ sets lags₀ at (lags_from t time (slice first end kept))

  pub laying_start : first ≤ end → Laying first at numbers₀ lags₀
  laying_start h =
      record {
        from_first = omega arith;
        within = h;
        place = omega arith;
        long_numbers = refl;
        long_lags = refl;
        content = refl;
        beside = refl;
      }

  module _ (from next : ℕ) (numbers : List ℕ) (lags : List ℤ) (known : Laying from next numbers lags) where
    pub laying_more : from < end → end ≤ length kept → (lag : ℤ) → lag ≡ lag_of (decoding_of t (get_or kept from 0)) time
        → Laying (from + 1) (next + 1) (set numbers next (get_or kept from 0)) (set lags next lag)
    laying_more h fits lag e =
        let row : ℕ = get_or kept from 0 in
        let one = slice-cons from end kept 0 h fits in
        record {
          from_first = omega (arith, known.from_first);
          within = omega arith;
          place = omega (arith, known.place, known.from_first);
          long_numbers = length-set numbers next row ∙ known.long_numbers;
          long_lags = length-set lags next lag ∙ known.long_lags;
          content =
              ap₂ (λ (m n : ℕ). sets (set numbers next row) m (slice n end kept)) (add-one next) (add-one from)
              ∙ sym (ap (sets numbers next) one)
              ∙ known.content;
          beside =
              ap₂ (λ (m : ℕ) (z : ℤ). sets (set lags next z) m (lags_from t time (slice (from + 1) end kept))) (add-one next) e
              ∙ ap (λ (n : ℕ). sets (set lags next (lag_of (decoding_of t row) time)) (suc next) (lags_from t time (slice n end kept))) (add-one from)
              ∙ sym (ap (λ (l : List ℕ). sets lags next (lags_from t time l)) one)
              ∙ known.beside;
        }

    module _ (h : end ≤ from) where
      none_left : slice from end kept ≡ []
      none_left = let all : from ≡ end = omega (arith, known.within) in ap (λ (n : ℕ). slice n end kept) all ∙ slice_empty end kept

      pub laid_numbers : numbers ≡ sets numbers₀ at (slice first end kept)
      laid_numbers = sym (ap (sets numbers next) none_left) ∙ known.content

      pub laid_lags : lags ≡ sets lags₀ at (lags_from t time (slice first end kept))
      laid_lags = sym (ap (λ (l : List ℕ). sets lags next (lags_from t time l)) none_left) ∙ known.beside
