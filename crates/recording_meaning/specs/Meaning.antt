-- WHAT IS RIGHT of the whole import of a loop, a target and the packets of a recording, in the request's words: 'the loop's numbers, 11 and 12; then the lowest of 30 to 33 at
-- its earliest packet; then the lowest of 20 to 24 at its earliest packet (place: the packet's number); then 13 at place 0 ..; then 14 to 18 and 17 as joining has them'.
-- `places` is how many rows there may be. proofs/Meant.antt has the laws that join this to what is computed, both ways.
-- Assumes nothing.
use Rattle.std.specs.Prelude.{ℕ, List, map, length, Err, Ok}
use Rattle.framing.specs.Pieces.{Item, Cuts}
use Rattle.vocabulary.specs.declared.stream_types.Reading.TheVariants.{Edition2015}
use Rattle.vocabulary.specs.declared.refusal.Refusal.{Refusal}
use Rattle.vocabulary.specs.declared.refusal.Refusal.TheVariants.{OutOfRange}
use Rattle.loop_entries.specs.declared.Stream.{Stream}
use Rattle.loop_entries.specs.Entries.{entry_of}
use Rattle.es_loop.specs.Reading.{refused_with, accepted}
use Rattle.es_loop.specs.Meaning as Loop
use Rattle.closure.specs.declared.Layers.{Layers}
use Rattle.closure.specs.Answer.{Closure}
use Rattle.closure.specs.Meaning as Target
use Rattle.loop_layers.specs.Meaning.{LayersOf}
use Rattle.packets.specs.Reading.{packet_bytes}
use Rattle.scanning.specs.declared.events.Row.{Row}
use Rattle.recordings.specs.declared.RecordingFault.TheVariants.{Faulty, NotRead as Unread, TooManyRows}
use Rattle.recordings.specs.Meaning.{RowsFrom}
use Rattle.recordings.specs.Meaning as Recordings
use Rattle.unit_lists.specs.Sequence.{Lists}
use Rattle.join_answers.specs.Answer.{Joined}
use Rattle.join_answers.specs.Meaning as Joining
use Rattle.recording_imports.specs.Answer.{Imported}
use Rattle.recording_imports.specs.declared.Unread.TheVariants.{Refused, NotRead}
use Rattle.recording_imports.specs.Imports.{imported_of, table_of}
use Rattle.recording_layers.specs.Meaning.{ByPid}

-- A loop that the 2015 reading accepts, with its layers and the layer of each PID, and the answer to a target in it.
pub record Asked (bytes : List ℕ) (target : ℕ) (layers : Layers) (table : List ℕ) (closure : Closure) : Type 0 where
  pub streams : List Stream
  pub loop_accepted : Loop.Answers Edition2015 bytes (accepted streams)
  pub layers_of_loop : LayersOf (map entry_of streams) layers
  pub by_pid : ByPid (map entry_of streams) table
  pub target_answered : Target.Answers layers target closure

-- THE ANSWER, and what the three lists then hold: after a refusal what they held before.
pub data Answers (places : ℕ) (bytes : List ℕ) (target : ℕ) (packets : List ℕ) (before : Lists) : Imported → Lists → Type 0 where
  -- 1 to 9: 'the loop's numbers'
  loop_refused : {refusal : Refusal} → Loop.Answers Edition2015 bytes (refused_with refusal) → Answers places bytes target packets before (Err (Refused refusal)) before
  -- '11 and 12': whatever the packets are
  no_closure : {layers : Layers} {table : List ℕ} {refusal : Refusal} → Asked bytes target layers table (Err refusal)
      → Answers places bytes target packets before (Err (Refused refusal)) before
  -- 'the lowest of 30 to 33 at its earliest packet'
  faulty : {layers : Layers} {table : List ℕ} {closure : ℕ} {fault : Refusal} → Asked bytes target layers table (Ok closure)
      → Recordings.Answers table packets places (Err (Faulty fault)) → Answers places bytes target packets before (Err (Refused fault)) before
  -- 'the lowest of 20 to 24 at its earliest packet (place: the packet's number)'
  not_read : {layers : Layers} {table : List ℕ} {closure : ℕ} {refusal : Refusal} {packet : ℕ} → Asked bytes target layers table (Ok closure)
      → Recordings.Answers table packets places (Err (Unread refusal packet)) → Answers places bytes target packets before (Err (NotRead refusal packet)) before
  -- '13 at place 0 for more than 512 components of known layers'
  too_many : {layers : Layers} {table : List ℕ} {closure : ℕ} → Asked bytes target layers table (Ok closure)
      → Recordings.Answers table packets places (Err TooManyRows) → Answers places bytes target packets before (Err (Refused (OutOfRange 0))) before
  -- '14 to 18 and 17 as joining has them', or the units: joining over the rows of the packets
  joined : {layers : Layers} {table : List ℕ} {closure : ℕ} {items : List Item} {rows : List Row} {answer : Joined} {after : Lists}
      → Asked bytes target layers table (Ok closure) → Recordings.Answers table packets places (Ok (length rows))
      → Cuts packet_bytes (λ head. 0) packets items → RowsFrom table items 0 rows
      → Joining.AnswersOver places layers target closure (table_of rows) before answer after
      → Answers places bytes target packets before (imported_of answer) after
