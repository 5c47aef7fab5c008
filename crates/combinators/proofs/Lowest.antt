-- After every place the lowest number that applies, and its earliest place, are those that the definitions of Lowest in specs/ give.
-- Assumes nothing.
use Rattle.std.specs.Prelude.{ℕ, ◌<◌, ◌≡◌, Bool}
use Rattle.std.proofs.Common.{arith}
use Rattle.combinators.specs.Below.{some, some_at, at_none, none_at}
use Rattle.combinators.specs.Lowest.{Lowest, earliest_place, lowest_number}
use Rattle.combinators.proofs.Seeking.{first_seek, seek_first, seek_inside}

module _ (applies : ℕ → ℕ → Bool) (numbers : ℕ) where
  -- After every place: the number and the place are those that the definitions give.
  pub lowest_number_lem : (places number place : ℕ) → Lowest applies numbers places number place → number ≡ lowest_number applies numbers places
  lowest_number_lem places number place b =
      first_seek (λ n. some (applies n) places) numbers number
      (record {
        within = b.within;
        before = λ n h. at_none (applies n) places (λ k l. b.lower n k h l);
        found = λ h. some_at (applies number) places place (b.inside h) (b.holds h);
      })

  pub earliest_place_lem : (places number place : ℕ) → Lowest applies numbers places number place → number < numbers
      → place ≡ earliest_place applies number places
  earliest_place_lem places number place b h =
      first_seek (applies number) places place
      (record { within = (let i = b.inside h in omega arith); before = b.earlier h; found = λ l. b.holds h })

  -- The definitions meet what is said above, so the two are one.
  pub lowest_is : (places : ℕ) → Lowest applies numbers places (lowest_number applies numbers places)
      (earliest_place applies (lowest_number applies numbers places) places)
  lowest_is places =
      let number : ℕ = lowest_number applies numbers places in
      let f = seek_first (λ n. some (applies n) places) numbers in
      let g = seek_first (applies number) places in
      record {
        within = f.within;
        lower = λ n k h l. none_at (applies n) places (f.before n h) k l;
        inside = λ h. seek_inside (applies number) places (f.found h);
        holds = λ h. g.found (seek_inside (applies number) places (f.found h));
        earlier = λ h. g.before;
      }
