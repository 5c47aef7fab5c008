-- The first part of a text, as a search for its mark finds it, and the parts after it.
-- Assumes nothing.
use Rattle.std.proofs.Common.{ℕ, ◌+◌, ◌-◌, ◌≡◌, ◌<◌, min, Bool, not, List, [], ◌∷◌, length, take, arith}
use lib.Dec.{eqb}
use lib.ListN.{drop}
use mathlib.Core.Path.{refl, sym, ◌∙◌}
use Prim.Native.Nat.{zero, suc}
use Rattle.combinators.specs.Below.{First}
use Rattle.combinators.specs.Lists.{part_to_end}
use Rattle.std.specs.List.{position, position_or_len}
use Rattle.std.specs.Option.{unwrap_or}
use Rattle.std.proofs.lemmas.List.Sums.{fails_before_first, passes_at_first, prefix_len-le-length}
use borrow.Author.Tests.{lt-ltb, le-ltb}
use Rattle.std.proofs.Math.Decide.{dec_lt}
use Rattle.combinators.proofs.Seeking.{first_seek, seek_first}
use Rattle.cases.specs.Parts.{is_mark, bytes_before, parts_of}

-- the place of the first mark, or the length
module _ (mark : ℕ) (text : List ℕ) where
  abbrev test : ℕ → Bool
  test byte = eqb byte mark

  first_mark : position_or_len test text ≡ bytes_before mark text
  first_mark =
      first_seek (is_mark mark text) (length text) (position_or_len test text)
      (record { within = prefix_len-le-length _ text; before = λ j l. fails_before_first test text j 0 l; found = λ l. passes_at_first test text 0 l })

  -- as the library answers: the place of the first mark if there is one, and the length otherwise
  pub before_is : unwrap_or (position test text) (length text) ≡ bytes_before mark text
  before_is = go (dec_lt (position_or_len test text) (length text))
    where
      go : Dec (position_or_len test text < length text) → unwrap_or (position test text) (length text) ≡ bytes_before mark text
      go (yes h) = rw (lt-ltb _ _ h, first_mark)
      go (no h) =
          let all : position_or_len test text ≡ length text = omega (arith, h, prefix_len-le-length (λ x. not (test x)) text) in
          rw (le-ltb (position_or_len test text) (length text) (omega (arith, h))) (sym all ∙ first_mark)

-- the first part, and the parts of what stands behind it
module _ (mark : ℕ) where
  by_first : (text : List ℕ) (n : ℕ) → 0 < length text → First (is_mark mark text) (length text) n
      → parts_of mark text ≡ take n text ∷ parts_of mark (drop (min (n + 1) (length text)) text)
  by_first [] n some first = absurd (omega arith)
  by_first (x ∷ xs) zero some first =
      let one : min 1 (suc (length xs)) ≡ 1 = omega arith in
      rw (first.found (omega arith), one) refl
  by_first (x ∷ []) (suc n) some first =
      let none : n ≡ 0 = omega (arith, first.within) in
      rw (none, first.before 0 (omega arith)) refl
  by_first (x ∷ y ∷ ys) (suc n) some first =
      let rest = by_first (y ∷ ys) n (omega arith) (record { within = omega (arith, first.within); before = λ j h. first.before (suc j) (omega arith); found = λ h. first.found (omega arith) }) in
      let further : min (suc n + 1) (suc (suc (length ys))) ≡ suc (min (n + 1) (suc (length ys))) = omega arith in
      rw (first.before 0 (omega arith), further, rest) refl

  pub first_then_rest : (text : List ℕ) (size step : ℕ) → 0 < length text → size ≡ bytes_before mark text → step ≡ min (size + 1) (length text)
      → parts_of mark text ≡ take size text ∷ parts_of mark (take (length text - step) (drop step text))
  first_then_rest text size step some is-size is-step =
      rw (part_to_end text step, is-step, is-size)
      (by_first text (bytes_before mark text) some (seek_first (is_mark mark text) (length text)))

pub fewer_parts : (whole rest : List (List ℕ)) (part : List ℕ) → whole ≡ part ∷ rest → length rest < length whole
fewer_parts whole rest part e = rw e (omega arith)
