-- The layers that a record names, as a set in one number: bit i is 1 exactly when it names layer i.
-- Assumes nothing.
use Prim.Native.Nat.{ℕ, suc, ◌^◌, ◌<◌}
use mathlib.Core.Path.{◌≡◌, sym, ◌∙◌}
use mathlib.Core.Bool.{false, ◌||◌, or_assoc, or-false}
use mathlib.Core.List.{List, [], ◌∷◌}
use native.Mathlib.Omega.{arith}
use borrow.Author.Tests.{leb-false}
use lib.Dec.{eqb, leb}
use lib.ListN.{length, get_or, take}
use lib.Pow.{pow_pos}
use Rattle.combinators.specs.Bools.{neither_left}
use Rattle.combinators.specs.Below.{none_at}
use Rattle.combinators.specs.Members.{member}
use Rattle.sets.specs.Sets.{has, added}
use Rattle.sets.proofs.Laws.{has_none, has_added, added_within, same_members_within}
use Rattle.vocabulary.specs.declared.LayerIndex.{LayerIndex}
use Rattle.records.specs.declared.Record.{Record}
use Rattle.records.specs.Records.{index_of, named, with_indices, names_of}
use Rattle.judging.specs.Judging.{wrong_at, wrong_embedded}

-- THE MEANING. An index is in a set with more of them when it was there before or is one of them.
pub indices_in : (set : ℕ) (l : List ℕ) (i : ℕ) → i < 64 → has (with_indices set l) i ≡ has set i || member i l
indices_in set [] i h = sym (or-false (has set i))
indices_in set (x ∷ xs) i h =
    rw (indices_in (added set x) xs i h, has_added set x i h, or_assoc (has set i) (eqb i x) (member i xs))

-- A bound on the indices is a bound on the set; 64 is one.
below_indices : (k set : ℕ) (l : List ℕ) → set < 2 ^ k → ((j : ℕ) → j < length l → get_or l j 0 < 64 → get_or l j 0 < k)
    → with_indices set l < 2 ^ k
below_indices k set [] h f = h
below_indices k set (i ∷ is) h f =
    below_indices k (added set i) is (added_within k set i h (f 0 (omega arith))) (λ j l. f (suc j) (omega arith))

pub indices_within : (set : ℕ) (l : List ℕ) → set < 2 ^ 64 → with_indices set l < 2 ^ 64
indices_within set l h = below_indices 64 set l h (λ j l k. k)

module _ (stream_type : ℕ) (r : Record) (layers : List LayerIndex) where
  -- The set that a record's names make holds an index exactly when the record names it, and no other number of 64 bits does so.
  pub names_in : (i : ℕ) → i < 64 → has (names_of stream_type r layers) i ≡ member i (named stream_type r layers)
  names_in i h = rw (indices_in 0 (named stream_type r layers) i h, has_none i)

  pub names_only : (set : ℕ) → set < 2 ^ 64 → ((i : ℕ) → i < 64 → has set i ≡ member i (named stream_type r layers)) → set ≡ names_of stream_type r layers
  names_only set h f =
      same_members_within 64 set (names_of stream_type r layers) h (indices_within 0 (named stream_type r layers) (pow_pos 64)) (λ i l. f i l ∙ sym (names_in i l))

  -- A layer that 9 does not refuse names lower layers alone: its set has no bit at its own index or above.
  pub names_lower : wrong_embedded stream_type r layers ≡ false → names_of stream_type r layers < 2 ^ index_of stream_type r
  names_lower e =
      let own : ℕ = index_of stream_type r in
      let indices : List ℕ = named stream_type r layers in
      below_indices own 0 indices (pow_pos own)
      (λ k h l. leb-false own (get_or indices k 0) (neither_left (leb own (get_or indices k 0)) (member (get_or indices k 0) (take k indices)) (none_at (wrong_at own indices) (length indices) e k h)))
