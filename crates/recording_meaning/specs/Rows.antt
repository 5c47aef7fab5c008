-- WHAT IS RIGHT of the rows of a recording under a loop, and of the columns that hold them, in the request's words: 'the loop's numbers', then those of the packets, of the PES
-- headers, and 13. proofs/RowsMeant.antt has the laws that join this to what is computed, both ways.
-- Assumes nothing.
use Rattle.std.specs.Prelude.{ℕ, List, map, length, Err, Ok}
use Rattle.framing.specs.Pieces.{Item, Cuts}
use Rattle.vocabulary.specs.declared.stream_types.Reading.TheVariants.{Edition2015}
use Rattle.vocabulary.specs.declared.refusal.Refusal.{Refusal}
use Rattle.vocabulary.specs.declared.refusal.Refusal.TheVariants.{OutOfRange}
use Rattle.loop_entries.specs.declared.Stream.{Stream}
use Rattle.loop_entries.specs.Entries.{entry_of}
use Rattle.es_loop.specs.Reading.{refused_with, accepted}
use Rattle.es_loop.specs.Meaning as Loop
use Rattle.closure.specs.declared.Layers.{Layers}
use Rattle.packets.specs.Reading.{packet_bytes}
use Rattle.scanning.specs.declared.events.Row.{Row}
use Rattle.recordings.specs.declared.RecordingFault.{RecordingFault}
use Rattle.recordings.specs.Meaning.{RowsFrom}
use Rattle.recordings.specs.Meaning as Recordings
use Rattle.recording_rows.specs.Columns.{Columns, over_all}
use Rattle.recording_imports.specs.Answer.{RowsRead}
use Rattle.recording_imports.specs.declared.Unread.TheVariants.{Refused, NotRead}
use Rattle.recording_layers.specs.Meaning.{ByPid}
use Rattle.recording_meaning.specs.Meaning.{Asked}

-- A loop that the 2015 reading accepts, and the layer of each PID.
pub record UnderLoop (bytes table : List ℕ) : Type 0 where
  pub streams : List Stream
  pub loop_accepted : Loop.Answers Edition2015 bytes (accepted streams)
  pub by_pid : ByPid (map entry_of streams) table

-- The rows of a recording, where there is room for so many: no number of its packets or headers applies.
pub record Gives (table packets : List ℕ) (room : ℕ) (rows : List Row) : Type 0 where
  pub accepted : Recordings.Answers table packets room (Ok (length rows))
  pub items : List Item
  pub cut : Cuts packet_bytes (λ head. 0) packets items
  pub rows_from : RowsFrom table items 0 rows

-- THE ROWS under a loop, and what the columns then hold: the rows from the front on, and beyond them what stood there; after a refusal what they held before.
pub data ReadsRows (bytes packets : List ℕ) (room : ℕ) (before : Columns) : RowsRead → Columns → Type 0 where
  loop_refused : {refusal : Refusal} → Loop.Answers Edition2015 bytes (refused_with refusal) → ReadsRows bytes packets room before (Err (Refused refusal)) before
  faulty : {table : List ℕ} {fault : Refusal} → UnderLoop bytes table → Recordings.Answers table packets room (Err (RecordingFault.Faulty fault))
      → ReadsRows bytes packets room before (Err (Refused fault)) before
  not_read : {table : List ℕ} {refusal : Refusal} {packet : ℕ} → UnderLoop bytes table → Recordings.Answers table packets room (Err (RecordingFault.NotRead refusal packet))
      → ReadsRows bytes packets room before (Err (NotRead refusal packet)) before
  too_many : {table : List ℕ} → UnderLoop bytes table → Recordings.Answers table packets room (Err RecordingFault.TooManyRows)
      → ReadsRows bytes packets room before (Err (Refused (OutOfRange 0))) before
  all_rows : {table : List ℕ} {rows : List Row} → UnderLoop bytes table → Gives table packets room rows
      → ReadsRows bytes packets room before (Ok (length rows)) (over_all rows before)

-- THE COLUMNS OF A WHOLE IMPORT hold the rows as soon as these are accepted, whatever joining says of them; and what they held before where the loop, the target, the packets, the
-- headers or the room is refused.
pub data Leaves (places : ℕ) (bytes : List ℕ) (target : ℕ) (packets : List ℕ) (before : Columns) : Columns → Type 0 where
  rows_laid : {layers : Layers} {table : List ℕ} {closure : ℕ} {rows : List Row} → Asked bytes target layers table (Ok closure)
      → Gives table packets places rows → Leaves places bytes target packets before (over_all rows before)
  untouched : ((layers : Layers) (table : List ℕ) (closure : ℕ) (rows : List Row) → Asked bytes target layers table (Ok closure) → Gives table packets places rows → ⊥)
      → Leaves places bytes target packets before before
