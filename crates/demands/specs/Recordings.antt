-- W-202, THE DEMANDS OVER RECORDINGS: of the calls that take a loop, a target and the packets of a recording. Demand 1 of these calls stands in `demand_1`, and here what the columns hold, which a
-- refusal of joining does not leave as they were. Demand 2 speaks of joining: here of joining over the rows that the packets give, in the layers that the loop has under the 2015
-- reading, where nothing that comes before joining is refused. Demand 3 is over the same rows. Which PIDs are layer PIDs stands beside them.
-- Assumes nothing.
use Rattle.recording_imports.specs.Answer.{imported_units, Imported}
use Rattle.std.specs.Prelude.{ℕ, List, ◌↔◌, ◌≡◌, Err}
use Rattle.vocabulary.specs.declared.refusal.Refusal.TheVariants.{Unpaired, UsedTwice}
use Rattle.closure.specs.declared.Layers.{Layers}
use Rattle.unit_lists.specs.Sequence.{Lists}
use Rattle.every_row.specs.Statements.{EachOnce, total}
use Rattle.join_answers.specs.Answer.{Joined}
use Rattle.unit_starts.specs.Finding.{rows_in}
use Rattle.recording_layers.specs.Meaning.{OfEveryLoop}
use Rattle.recording_layers.specs.Predecessors.{ByPidOrByLayer}
use Rattle.recording_imports.specs.declared.Unread.TheVariants.{Refused}
use Rattle.recording_imports.specs.Imports.{table_of}
use Rattle.recording_demands.specs.Filled.{Fills}
use Rattle.recording_demands.specs.Agreement.{filled, Of512Rows, OfEveryRecording}
use Rattle.recording_demands.specs.Reaching.{ToJoining}
use Rattle.recording_demands.proofs.Agreement.{of_512_rows}
use Rattle.promised.specs.Joiners.{RowsGiven}
use Rattle.recording_promises.specs.Imports.{ImportGiven, import_packets, import_long, ColumnsLeft}
use Rattle.demands.specs.Demand2.{OneUnitEach, FirstUnpaired, FirstSharing}

-- the rows that the packets give, in the layers of the loop
abbrev pub rows_over : ImportGiven → Layers → RowsGiven
rows_over given layers =
    record {
      most = given.places;
      layers = layers;
      target = given.target;
      rows = filled given.places given.bytes given.target given.packets;
      before = given.before;
    }

abbrev pub Reaches : ImportGiven → Type 0
Reaches given = ToJoining given.places given.bytes given.target given.packets

-- Of a recording: the loop is accepted, the packets give rows that there is room for, and of these rows in the loop's layers it is so.
pub record OfRecording (given : ImportGiven) (P : RowsGiven → Type 0) : Type 0 where
  pub nothing_before : Reaches given
  pub holds : P (rows_over given nothing_before.layers)

-- DEMAND 2. 'Each unclaimed row yields one unit .. paired by TREF or else by decoding time'; 15 and 16 each exactly when.
pub record SaysOfRecording (given : ImportGiven) (answer : Imported) (left : Lists) : Type 0 where
  pub units : (closure units rows : ℕ) (after : Lists)
      → ((answer ≡ imported_units closure units rows) × (left ≡ after)) ↔ OfRecording given (λ g. OneUnitEach g closure units rows after)
  pub unpaired : (row : ℕ) → (answer ≡ Err (Refused (Unpaired row))) ↔ OfRecording given (λ g. FirstUnpaired g row)
  pub used_twice : (row : ℕ) → (answer ≡ Err (Refused (UsedTwice row))) ↔ OfRecording given (λ g. FirstSharing g row)

-- 'In every accepted answer each closure row stands in exactly one unit': of the rows of the recording
abbrev pub EachRowOnce : Type 0
EachRowOnce =
    (given : ImportGiven) (closure units rows : ℕ) (after : Lists) (u : OfRecording given (λ g. OneUnitEach g closure units rows after))
    → EachOnce u.nothing_before.layers given.target (filled given.places given.bytes given.target given.packets) u.holds.accepted.numbers
    × (total u.holds.accepted.sizes ≡ rows)

pub record OverRecordings : Type 0 where
  -- the columns of the long import
  pub columns_hold : ColumnsLeft
  -- demand 2
  pub of_512_rows : (run : import_packets.Ran) → import_packets.Ensures run → SaysOfRecording (import_packets.given run) (import_packets.answer run) (import_packets.after run)
  pub of_any_length : (run : import_long.Ran) → import_long.Ensures run → SaysOfRecording (import_long.given run) (import_long.answer run) (import_long.after run)
  pub each_row_once : EachRowOnce
  -- the table so filled, whatever table of PIDs and whatever bytes
  pub rows_fill_the_table : (table packets : List ℕ) → Fills (rows_in table packets) (table_of (rows_in table packets))
  -- demand 3
  pub readings_agree : OfEveryRecording
  pub as_imported : Of512Rows
  -- which PIDs are layer PIDs, and a packet's predecessor
  pub pids_of_layers : OfEveryLoop
  pub predecessors : ByPidOrByLayer
