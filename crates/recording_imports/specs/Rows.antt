-- THE ROWS OF A RECORDING UNDER A LOOP: how many there are, or the refusal: the loop's, by the 2015 reading, then those of the recording (30 to 33, 20 to 24, 13 at
-- place 0); and what the columns then hold.
-- Assumes nothing.
use Rattle.std.specs.Prelude.{ℕ, List, Err, Ok}
use Rattle.vocabulary.specs.declared.stream_types.Reading.TheVariants.{Edition2015}
use Rattle.vocabulary.specs.declared.refusal.Refusal.TheVariants.{OutOfRange}
use Rattle.vocabulary.specs.Refusals as Refusals
use Rattle.es_loop.specs.Answer.{Outcome}
use Rattle.loop_layers.specs.declared.table.LayerTable.{LayerTable}
use Rattle.loop_layers.specs.declared.table.TableRead.{TableRead}
use Rattle.loop_layers.specs.Closures.{loop_table}
use Rattle.pid_layers.specs.PidLayers.{layers_by_pid}
use Rattle.scanning.specs.declared.events.Row.{Row}
use Rattle.unit_starts.specs.Finding.{rows_in}
use Rattle.recording_rows.specs.Columns.{Columns, over_all}
use Rattle.recordings.specs.Answer.{Recording}
use Rattle.recordings.specs.declared.RecordingFault.TheVariants.{Faulty, NotRead as HeaderNotRead, TooManyRows}
use Rattle.recordings.specs.Reading.{recording_of}
use Rattle.recording_imports.specs.Answer.{RowsRead}
use Rattle.recording_imports.specs.declared.Unread.TheVariants.{Refused, NotRead}

-- the layers of a loop, by the 2015 reading
abbrev pub loop_layers : List ℕ → TableRead
loop_layers bytes = loop_table Edition2015 bytes

-- 'the PIDs of all its layers (implied ones too) are layer PIDs'
abbrev pub pid_table_of : LayerTable → List ℕ
pid_table_of table = layers_by_pid table.layers.present table.pids

abbrev pub pid_table : List ℕ → List ℕ
pid_table bytes = pid_table_of (loop_layers bytes).table

-- the rows of a recording under a loop, by their definition over packets
abbrev pub rows_of : List ℕ → List ℕ → List Row
rows_of bytes packets = rows_in (pid_table bytes) packets

-- the answer of a recording, with its refusals under their names: 13 has place 0
abbrev pub rows_told : Recording → RowsRead
rows_told (Ok count) = Ok count
rows_told (Err (Faulty fault)) = Err (Refused fault)
rows_told (Err (HeaderNotRead refusal packet)) = Err (NotRead refusal packet)
rows_told (Err TooManyRows) = Err (Refused (OutOfRange 0))

-- 'the loop's numbers', then those of the recording
abbrev pub rows_for : Outcome → Recording → RowsRead
rows_for (Ok tt) recording = rows_told recording
rows_for (Err refusal) recording = Err (Refused refusal)

-- of a recording under a loop, where so many packets can be noted and the columns are these
abbrev pub rows_under : List ℕ → List ℕ → ℕ → Columns → RowsRead
rows_under bytes packets places before = rows_for (loop_layers bytes).outcome (recording_of (pid_table bytes) packets places before)

-- What the columns hold: the rows, and beyond them what stood there; after a refusal all is as it was.
abbrev pub columns_with : List Row → RowsRead → Columns → Columns
columns_with rows (Ok count) before = over_all rows before
columns_with rows (Err (Refused refusal)) before = before
columns_with rows (Err (NotRead refusal packet)) before = before

abbrev pub columns_under : List ℕ → List ℕ → RowsRead → Columns → Columns
columns_under bytes packets answer before = columns_with (rows_of bytes packets) answer before

-- the number and the place of a refusal; 0 where there is none
abbrev pub number_of : RowsRead → ℕ
number_of (Ok count) = 0
number_of (Err (Refused refusal)) = Refusals.number_of refusal
number_of (Err (NotRead refusal packet)) = Refusals.number_of refusal

abbrev pub place_of : RowsRead → ℕ
place_of (Ok count) = 0
place_of (Err (Refused refusal)) = Refusals.place_of refusal
place_of (Err (NotRead refusal packet)) = packet
