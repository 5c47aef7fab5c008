-- BUFFERS THAT HOLD A LAYER SET, in the words of include/thoquenry.h: the set's entries as rows, laid out as thq_read_loop lays them, and what is stored with each layer.
-- proofs/Held.antt has the law that joins this to the test that is computed, both ways; proofs/Left.antt that what the functions for C leave behind holds a set.
-- Assumes nothing.
use Rattle.std.specs.Prelude.{ℕ, ◌<◌, false, List, [], map, ◌↔◌, ◌≡◌, Err, Ok}
use Rattle.vocabulary.specs.declared.stream_types.Reading.{Reading}
use Rattle.vocabulary.specs.declared.refusal.Refusal.{Refusal}
use Rattle.loop_entries.specs.declared.Entry.{Entry}
use Rattle.loop_entries.specs.declared.Stream.{Stream}
use Rattle.es_loop.specs.Answer.{Outcome}
use Rattle.loop_entries.specs.Entries.{entry_of}
use Rattle.es_loop.specs.Reading.{refused_with, accepted}
use Rattle.es_loop.specs.Meaning as Loop
use Rattle.loop_layers.specs.Meaning.{LayerOf}
use Rattle.entry_rows.specs.Rows.{row_too_wide, row_of, rows_of, entry_in}
use Rattle.layer_set.specs.declared.«set».LayerSet.{LayerSet}
use Rattle.layer_set.specs.Sets.{stored_in, entry_at, set_of}
use Rattle.layer_set.specs.Meaning.{IsSet, Layer}
use Rattle.layer_set_rows.specs.Buffers.{stored_numbers}
use Rattle.thoquenry_sets.specs.Calls.{SetReply}

-- an entry that its row tells whole: no value in it is too wide, and nothing stands in it that the row has no room for
pub record Laid (e : Entry) : Type 0 where
  pub narrow : row_too_wide (row_of e) ≡ false
  pub told : entry_in (row_of e) ≡ e

pub record LaidOut (s : LayerSet) : Type 0 where
  pub each : (i : ℕ) → i < 64 → Laid (entry_at s.entries i)

-- THE BUFFERS HOLD THE SET.
pub record Holds (layers stored : List ℕ) (s : LayerSet) : Type 0 where
  pub is_set : IsSet s
  pub laid_out : LaidOut s
  pub rows : layers ≡ rows_of s.entries
  pub numbers : stored ≡ stored_numbers (stored_in s)

-- THE SET OF A LOOP: a refused loop gives its refusal, and no layer; else it is the set whose layers are those of the loop's entries, implied ones included.
pub data ReadsSet (reading : Reading) (bytes : List ℕ) : Outcome → LayerSet → Type 0 where
  loop_refused : {refusal : Refusal} → Loop.Answers reading bytes (refused_with refusal) → ReadsSet reading bytes (Err refusal) (set_of [])
  loop_accepted : (streams : List Stream) {s : LayerSet} → Loop.Answers reading bytes (accepted streams) → IsSet s
      → ((i : ℕ) (e : Entry) → Layer s i e ↔ LayerOf (map entry_of streams) i e) → ReadsSet reading bytes (Ok tt) s

-- WHAT A CALL LEAVES in the two buffers: what was there, or a set.
pub data Leaves (layers stored : List ℕ) (left : SetReply) : Type 0 where
  untouched : left.layers ≡ layers → left.stored ≡ stored → Leaves layers stored left
  a_set : (s : LayerSet) → Holds left.layers left.stored s → Leaves layers stored left
