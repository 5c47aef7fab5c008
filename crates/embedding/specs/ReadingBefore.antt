-- WHAT READING A LOOP ANSWERED BEFORE W-206, as a relation. The table of refusals had one row more than it has now; every other row, how a loop is cut into
-- entries, and the marks of two views that W-201 gives, are what they are now: this tells what W-206 changed, and nothing else.
-- Assumes nothing.
use Rattle.std.specs.Prelude.{ℕ, ◌≤◌, ◌<◌, List, map, length}
use Rattle.framing.specs.Pieces.{Item, Cuts}
use Rattle.vocabulary.specs.declared.LayerIndex.{LayerIndex}
use Rattle.vocabulary.specs.declared.stream_types.Reading.{Reading}
use Rattle.records.specs.declared.Record.{Record}
use Rattle.loop_entries.specs.declared.Stream.{Stream}
use Rattle.loop_entries.specs.Entries.{es_info_length, stream_of, marked_streams}
use Rattle.es_loop.specs.Meaning.{RecordAt}
use Rattle.es_loop.specs.Meaning as Loop
use Rattle.embedding.specs.Before.{MoreThan8, Told, refused, accepted}

-- The table 'Refusal numbers', 2 to 10: the condition of each number, and the entry that is its place.
module _ (reading : Reading) (entries : List Item) where
  pub data Condition : ℕ → ℕ → Type 0 where
    -- 2 to 9
    as_now : {n k : ℕ} → Loop.Condition reading entries n k → Condition n k
    -- 10
    embedded_many : {k t : ℕ} {r : Record} {layers : List LayerIndex} → RecordAt reading entries k t r layers → MoreThan8 r → Condition 10 k

pub data Answers (reading : Reading) (bytes : List ℕ) : Told (List Stream) → Type 0 where
  -- 1: the loop is longer than 1,008 bytes
  too_long_lem : 1008 < length bytes → Answers reading bytes (refused 1 0)
  -- the lowest number that applies, at its earliest place
  refuses : {entries : List Item} {number place : ℕ} → length bytes ≤ 1008 → Cuts 5 es_info_length bytes entries
      → Condition reading entries number place
      → ((m j : ℕ) → m < number → Condition reading entries m j → ⊥)
      → ((j : ℕ) → j < place → Condition reading entries number j → ⊥)
      → Answers reading bytes (refused number place)
  -- every entry, in loop order, where no number applies
  accepts : {entries : List Item} → length bytes ≤ 1008 → Cuts 5 es_info_length bytes entries
      → ((n k : ℕ) → Condition reading entries n k → ⊥) → Answers reading bytes (accepted (marked_streams (map (stream_of reading) entries)))
