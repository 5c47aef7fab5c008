-- What a search finds: the first place that passes, or the bound, and nothing else. The definitions stand in Below and Those of specs/.
-- Assumes nothing.
use Rattle.std.specs.Prelude.{ℕ, zero, suc, ◌<◌, ◌≡◌, refl, Bool, true, false, length, get_or}
use Rattle.std.proofs.Common.{arith, zero-add, not-suc-le-zero}
use Rattle.std.proofs.Math.Decide.{dec_lt}
use Rattle.combinators.specs.Bools.{both_ways}
use Rattle.combinators.specs.Below.{First, first_unique, seek, seek_from_first, some, some_which}
use Rattle.combinators.specs.Those.{those, those_at, those_rise, those_which}

module _ (test : ℕ → Bool) where
  pub seek_first : (n : ℕ) → First test n (seek test n)
  seek_first n = rw zero-add at (seek_from_first test 0 n (λ j h. absurd (not-suc-le-zero h)))

  pub first_seek : (n k : ℕ) → First test n k → k ≡ seek test n
  first_seek n k f = first_unique test n k (seek test n) f (seek_first n)

  -- a search as a loop does it: nothing before k passes, and k is where it stops
  pub seek_here : (n k : ℕ) → k < n → ((j : ℕ) → j < k → test j ≡ false) → test k ≡ true → k ≡ seek test n
  seek_here n k h f e = first_seek n k (record { within = omega arith; before = f; found = λ l. e })

  pub seek_end : (n k : ℕ) → k ≡ n → ((j : ℕ) → j < k → test j ≡ false) → k ≡ seek test n
  seek_end n k h f = first_seek n k (record { within = omega arith; before = f; found = λ l. absurd (omega arith) })

  -- where some number passes, the search stops below the bound
  pub seek_inside : (n : ℕ) → some test n ≡ true → seek test n < n
  seek_inside n e = go (some_which test n e) (dec_lt (seek test n) n)
    where
      go : (k : ℕ) × (k < n) × (test k ≡ true) → Dec (seek test n < n) → seek test n < n
      go w (yes h) = h
      go w (no h) = both_ways w.2 ((seek_first n).before w.0 (omega (arith, w.1, (seek_first n).within)))

  -- the first of the numbers that pass is where a search stops is where a search stops
  pub those_first : (n : ℕ) → 0 < length (those test n) → get_or (those test n) 0 0 ≡ seek test n
  those_first n h =
      let w = those_at test n 0 h in
      seek_here n (get_or (those test n) 0 0) w.below (λ j l. go j l (test j) refl) w.passes
    where
      before_first : (j p : ℕ) → j < get_or (those test n) 0 0 → p < length (those test n) → get_or (those test n) p 0 ≡ j → ⊥
      before_first j zero l q e = omega arith
      before_first j (suc p) l q e = let rise = those_rise test n 0 (suc p) (omega arith) q in omega arith

      go : (j : ℕ) → j < get_or (those test n) 0 0 → (b : Bool) → test j ≡ b → test j ≡ false
      go j l true e =
          let inside = (those_at test n 0 h).below in
          let w = those_which test n j (omega arith) e in absurd (before_first j w.0 l w.1 w.2)
      go j l false e = e
