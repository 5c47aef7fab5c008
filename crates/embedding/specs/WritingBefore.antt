-- WHAT WRITING A LOOP ANSWERED BEFORE W-206, and what the buffer then held, as a relation. The table of refusals had one row more than it has now; every
-- other row, and the bytes of an entry, is what it is now.
-- Assumes nothing.
use Rattle.std.specs.Prelude.{ℕ, ◌≤◌, ◌<◌, List, ◌++◌, length, take, drop}
use Rattle.combinators.specs.Lists.{Nth}
use Rattle.loop_entries.specs.declared.Entry.{Entry}
use Rattle.loop_writer.specs.Meaning.{SomeTooWide, EachFits, WritesEntries}
use Rattle.loop_writer.specs.Meaning as Writer
use Rattle.embedding.specs.Before.{MoreThan8, Told, refused, accepted}

-- The table 'Refusal numbers', 3 and 6 to 10: the condition of each number, and the entry that is its place.
module _ (entries : List Entry) where
  pub data Condition : ℕ → ℕ → Type 0 where
    -- 3 and 6 to 9
    as_now : {n k : ℕ} → Writer.Condition entries n k → Condition n k
    -- 10
    embedded_many : {k : ℕ} {e : Entry} → Nth entries k e → MoreThan8 e.«record» → Condition 10 k

pub data Answers (count : ℕ) (array : List Entry) (old : List ℕ) : Told ℕ → List ℕ → Type 0 where
  -- 25 before all else
  too_wide_lem : SomeTooWide (take count array) → Answers count array old (refused 25 0) old
  -- 1: more entries than 1,008 bytes can hold, or more bytes
  too_many : EachFits (take count array) → 201 < count → Answers count array old (refused 1 0) old
  too_long_lem : {bytes : List ℕ} → EachFits (take count array) → WritesEntries (take count array) bytes → 1008 < length bytes
      → Answers count array old (refused 1 0) old
  -- the lowest number that applies, at its earliest place
  refuses : {bytes : List ℕ} {number place : ℕ} → EachFits (take count array) → count ≤ 201 → WritesEntries (take count array) bytes
      → length bytes ≤ 1008 → Condition (take count array) number place
      → ((m j : ℕ) → m < number → Condition (take count array) m j → ⊥)
      → ((j : ℕ) → j < place → Condition (take count array) number j → ⊥)
      → Answers count array old (refused number place) old
  -- 17: output room too small
  no_room : {bytes : List ℕ} → EachFits (take count array) → count ≤ 201 → WritesEntries (take count array) bytes → length bytes ≤ 1008
      → ((n k : ℕ) → Condition (take count array) n k → ⊥) → length old < length bytes → Answers count array old (refused 17 0) old
  -- the number of bytes written
  accepts : {bytes : List ℕ} → EachFits (take count array) → count ≤ 201 → WritesEntries (take count array) bytes → length bytes ≤ 1008
      → ((n k : ℕ) → Condition (take count array) n k → ⊥) → length bytes ≤ length old
      → Answers count array old (accepted (length bytes)) (bytes ++ drop (length bytes) old)
