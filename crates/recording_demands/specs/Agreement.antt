-- DEMAND 3 OVER A RECORDING. 'Take any loop that the 2015 reading accepts, with any target layer, row table and output room.' A recording's packets are told from one another by
-- the PIDs of the 2015 reading's layers, so that there is one row table; here it is what each reading answers over it. Where the packets and headers give rows, the import of the
-- recording is the 2015 reading's import of its rows; if every stream the target rests on has a 2009 stream type, the 2009 reading gives the identical answer over the
-- same rows, and otherwise it refuses with 11 or 12, for every recording and every output room. `places` is how many rows there may be: 512, or what a caller lends.
-- Assumes nothing.
use Rattle.std.specs.Prelude.{ℕ, List, map, ◌↔◌, Ok, Err}
use Rattle.vocabulary.specs.declared.stream_types.Reading.{Reading}
use Rattle.vocabulary.specs.declared.stream_types.Reading.TheVariants.{Edition2009, Edition2015}
use Rattle.vocabulary.specs.declared.refusal.Refusal.{Refusal}
use Rattle.loop_entries.specs.declared.Entry.{Entry}
use Rattle.loop_entries.specs.declared.Stream.{Stream}
use Rattle.loop_entries.specs.Entries.{entry_of}
use Rattle.es_loop.specs.Reading.{refused_with, accepted}
use Rattle.es_loop.specs.Meaning as Loop
use Rattle.closure.specs.declared.Layers.{Layers}
use Rattle.loop_layers.specs.Meaning.{LayersOf}
use Rattle.rows.specs.Table.{Table, most_rows}
use Rattle.unit_lists.specs.Sequence.{Lists}
use Rattle.join_answers.specs.Answer.{Joined}
use Rattle.join_answers.specs.Meaning as Joining
use Rattle.importing.specs.Meaning as Import
use Rattle.agreement.specs.Meaning.{Accepts, Every2009, Otherwise, NoSet}
use Rattle.recordings.specs.Meaning as Recordings
use Rattle.recording_imports.specs.Answer.{Imported}
use Rattle.recording_imports.specs.Rows.{pid_table, rows_of}
use Rattle.recording_imports.specs.Imports.{imported_of, table_of}
use Rattle.recording_meaning.specs.Meaning as Recording

-- THE IMPORT OF ROWS by a reading, where a table may have so many: as `importing` has it of 512 (`of_512_rows`).
pub data ImportsRows (most : ℕ) (reading : Reading) (bytes : List ℕ) (target : ℕ) (t : Table) (before : Lists) : Joined → Lists → Type 0 where
  loop_refused : {refusal : Refusal} → Loop.Answers reading bytes (refused_with refusal) → ImportsRows most reading bytes target t before (Err refusal) before
  loop_accepted : (streams : List Stream) {layers : Layers} {answer : Joined} {after : Lists} → Loop.Answers reading bytes (accepted streams)
      → LayersOf (map entry_of streams) layers → Joining.Answers most layers target t before answer after
      → ImportsRows most reading bytes target t before answer after

abbrev pub Of512Rows : Type 0
Of512Rows =
    (reading : Reading) (bytes : List ℕ) (target : ℕ) (t : Table) (before : Lists) (answer : Joined) (after : Lists)
    → ImportsRows most_rows reading bytes target t before answer after ↔ Import.Answers reading bytes target t before answer after

module _ (places : ℕ) (bytes : List ℕ) (target : ℕ) (packets : List ℕ) where
  -- THE TABLE SO FILLED: the rows of the recording. W-213's column and the packets' numbers are no part of it.
  abbrev pub filled : Table
  filled = table_of (rows_of bytes packets)

  -- the packets and the headers in them give rows, and there is room for them: no 30 to 33, no 20 to 24, no 13
  pub record GivesRows : Type 0 where
    pub count : ℕ
    pub rows : Recordings.Answers (pid_table bytes) packets places (Ok count)

  -- the import of the recording: its answer, and what the three lists then hold
  abbrev pub Imports : Lists → Imported → Lists → Type 0
  Imports before answer after = Recording.Answers places bytes target packets before answer after

  -- 'the 2009 reading refuses with "no such layer" or "embedded layer absent"', with one refusal for every room
  pub record Refuses2009 : Type 0 where
    pub refusal : Refusal
    pub is_11_or_12 : NoSet refusal
    pub always : (before : Lists) → ImportsRows places Edition2009 bytes target filled before (Err refusal) before

  pub record Agrees (entries : List Entry) (layers : Layers) : Type 0 where
    -- what the 2015 reading answers over the rows of the recording is the answer of the recording
    pub in_2015 : GivesRows → (before : Lists) (answer : Joined) (after : Lists)
        → ImportsRows places Edition2015 bytes target filled before answer after ↔ Imports before (imported_of answer) after
    -- 'the 2009 reading gives the identical answer'
    pub identical : Every2009 entries layers target → GivesRows → (before : Lists) (answer : Joined) (after : Lists)
        → ImportsRows places Edition2009 bytes target filled before answer after ↔ Imports before (imported_of answer) after
    pub otherwise : Otherwise entries layers target → Refuses2009

-- THE STATEMENT: of every loop that the 2015 reading accepts, every target, every recording, sound or damaged, and every number of rows that there may be.
abbrev pub OfEveryRecording : Type 0
OfEveryRecording =
    (places : ℕ) (bytes : List ℕ) (entries : List Entry) (layers : Layers) → Accepts Edition2015 bytes entries layers
    → (target : ℕ) (packets : List ℕ) → Agrees places bytes target packets entries layers
