-- 'Several at once: the lowest number that applies, at the earliest place.' A test says whether a number applies at a place.
-- Assumes nothing.
use Rattle.std.specs.Prelude.{ℕ, ◌+◌, ◌≤◌, ◌<◌, ◌≡◌, Bool, true, false}
use Rattle.std.proofs.Common.{⊎_elim, arith, eq-or-lt_of_le, not-suc-le-zero}
use Rattle.combinators.specs.Below.{some, seek, First}

-- the lowest of the numbers below `numbers` that applies at one of the places, or `numbers` where none does
abbrev pub lowest_number : (ℕ → ℕ → Bool) → ℕ → ℕ → ℕ
lowest_number applies numbers places = seek (λ n. some (applies n) places) numbers

-- the earliest of the places at which a number applies
abbrev pub earliest_place : (ℕ → ℕ → Bool) → ℕ → ℕ → ℕ
earliest_place applies number places = seek (applies number) places

-- What is known of a number and a place after some of the places have been looked at: no lower number applies at any of them;
-- and unless it is past all numbers, it applies at the place, and at none of them before.
pub record Lowest (applies : ℕ → ℕ → Bool) (numbers places number place : ℕ) : Type 0 where
  pub within : number ≤ numbers
  pub lower : (n k : ℕ) → n < number → k < places → applies n k ≡ false
  pub inside : number < numbers → place < places
  pub holds : number < numbers → applies number place ≡ true
  pub earlier : number < numbers → (k : ℕ) → k < place → applies number k ≡ false

module _ (applies : ℕ → ℕ → Bool) (numbers : ℕ) where
  -- before any place has been looked at
  pub lowest_start : (place : ℕ) → Lowest applies numbers 0 numbers place
  lowest_start place =
      record {
        within = omega arith;
        lower = λ n k h l. absurd (not-suc-le-zero l);
        inside = λ h. absurd (omega arith);
        holds = λ h. absurd (omega arith);
        earlier = λ h. absurd (omega arith);
      }

  -- The next place has a lower number: that one is now the lowest.
  pub lowest_replace : (places number place lowest : ℕ) → Lowest applies numbers places number place
      → First (λ n. applies n places) numbers lowest → lowest < number → Lowest applies numbers (places + 1) lowest places
  lowest_replace places number place lowest b f h =
      record {
        within = f.within;
        lower = λ n k l m. ⊎_elim (λ (e : k ≡ places). rw e (f.before n l)) (λ (s : k < places). b.lower n k (omega arith) s)
            (eq-or-lt_of_le (omega arith));
        inside = λ l. omega arith;
        holds = λ l. f.found l;
        earlier = λ l k m. b.lower lowest k h m;
      }

  -- The next place has no lower number: the old one stands.
  pub lowest_keep : (places number place lowest : ℕ) → Lowest applies numbers places number place
      → First (λ n. applies n places) numbers lowest → number ≤ lowest → Lowest applies numbers (places + 1) number place
  lowest_keep places number place lowest b f h =
      record {
        within = b.within;
        lower = λ n k l m. ⊎_elim (λ (e : k ≡ places). rw e (f.before n (omega arith))) (λ (s : k < places). b.lower n k l s)
            (eq-or-lt_of_le (omega arith));
        inside = λ l. let i = b.inside l in omega arith;
        holds = λ l. b.holds l;
        earlier = λ l k m. b.earlier l k m;
      }
