-- An array filled from the front with the numbers below a bound that pass a test, as a loop gathers them one after another. The array has a place for each of them, and
-- may have fewer than there are numbers.
-- Assumes nothing.
use Rattle.std.specs.Prelude.{ℕ, ◌+◌, ◌≤◌, ◌<◌, ◌≡◌, refl, Bool, true, false, List, length, replicate}
use Rattle.std.proofs.Common.{sym, ◌∙◌, ap, arith}
use Rattle.std.proofs.Math.Nat.{sub-zero}
use Rattle.combinators.specs.Below.{count, count_less}
use Rattle.combinators.specs.Padding.{pad_to}
use Rattle.combinators.specs.Those.{those, those_same, length_those}

-- After n numbers the array holds those of them that pass, then blanks, and the count is how many they are.
pub record Gathered (test : ℕ → Bool) (bound size n passed : ℕ) (array : List ℕ) : Type 0 where
  pub within : n ≤ bound
  pub counted : passed ≡ length (those test n)
  pub filled : array ≡ pad_to size 0 (those test n)

module _ (test : ℕ → Bool) (bound size : ℕ) where
  pub gathered_start : Gathered test bound size 0 0 (replicate size 0)
  gathered_start = record { within = omega arith; counted = refl; filled = ap (λ (m : ℕ). replicate m 0) (sym (sub-zero size)) }

  module _ (n passed : ℕ) (array : List ℕ) (known : Gathered test bound size n passed array) (inside : n < bound) where
    -- there is room for one more, where there is room for all
    pub gathered_room : count test bound ≤ size → test n ≡ true → passed < size
    gathered_room few e = omega (arith, known.counted, length_those test n, count_less test n bound inside e)

    pub gathered_same : test n ≡ false → Gathered test bound size (n + 1) passed array
    gathered_same e =
        record {
          within = omega arith;
          counted = known.counted ∙ ap length (sym (those_same test n e));
          filled = known.filled ∙ ap (pad_to size 0) (sym (those_same test n e));
        }

  -- after all of them
  pub gathered_count : (n passed : ℕ) (array : List ℕ) → Gathered test bound size n passed array → bound ≤ n → passed ≡ length (those test bound)
  gathered_count n passed array known h =
      let all : n ≡ bound = omega (arith, known.within) in known.counted ∙ ap (λ (m : ℕ). length (those test m)) all

  pub gathered_array : (n passed : ℕ) (array : List ℕ) → Gathered test bound size n passed array → bound ≤ n → array ≡ pad_to size 0 (those test bound)
  gathered_array n passed array known h =
      let all : n ≡ bound = omega (arith, known.within) in known.filled ∙ ap (λ (m : ℕ). pad_to size 0 (those test m)) all
