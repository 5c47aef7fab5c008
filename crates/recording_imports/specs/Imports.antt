-- THE WHOLE IMPORT of a loop, a target and the packets of a recording: the units, or the refusal, in the order of the request: 'the loop's numbers, 11 and 12; then
-- the lowest of 30 to 33 at its earliest packet; then the lowest of 20 to 24 at its earliest packet; then 13 at place 0; then 14 to 18 and 17 as joining has them'.
-- In three steps: the loop is read and its target asked (`asked_of`), the recording is read (`rows_asked`), and its rows are joined (`imported_by`). A recording that was read
-- in pieces takes the first and the last (`import_told`).
-- Assumes nothing.
use Rattle.recording_imports.specs.Answer.{imported_units, RowsRead, Imported}
use Rattle.std.specs.Prelude.{ℕ, min, cond, List, map, ltb, length, take, Err, Ok}
use Rattle.vocabulary.specs.declared.refusal.Refusal.TheVariants.{OutOfRange}
use Rattle.vocabulary.specs.Refusals as Refusals
use Rattle.closure.specs.Answer.{Closure}
use Rattle.closure.specs.declared.Layers.{Layers}
use Rattle.es_loop.specs.Answer.{Outcome}
use Rattle.loop_layers.specs.Closures.{closure_for}
use Rattle.scanning.specs.declared.events.Row.{Row}
use Rattle.unit_starts.specs.Finding.{found_in}
use Rattle.recording_rows.specs.Columns.{Columns, room_in, index_in, decoding_in, match_in}
use Rattle.recordings.specs.Answer.{Recording}
use Rattle.recordings.specs.Reading.{answer_of}
use Rattle.rows.specs.Table.{Table, table}
use Rattle.unit_lists.specs.Sequence.{Lists}
use Rattle.join_answers.specs.Answer.{Joined}
use Rattle.join_answers.specs.Joining.{Room, joined_of, frame_of, lists_over}
use Rattle.recording_imports.specs.declared.Unread.TheVariants.{Refused, NotRead}
use Rattle.recording_imports.specs.declared.LoopAsked.{LoopAsked}
use Rattle.recording_imports.specs.Rows.{loop_layers, pid_table, rows_for, rows_of, columns_with}

-- FIRST: the loop is read and its target asked, 1 to 9, 11, 12
abbrev pub layers_of_loop : List ℕ → Layers
layers_of_loop bytes = (loop_layers bytes).table.layers

abbrev pub outcome_of : Closure → Outcome
outcome_of (Ok closure) = Ok tt
outcome_of (Err refusal) = Err refusal

abbrev pub outcome_for : Outcome → Layers → ℕ → Outcome
outcome_for outcome layers target = outcome_of (closure_for outcome layers target)

abbrev pub outcome_asked : List ℕ → ℕ → Outcome
outcome_asked bytes target = outcome_for (loop_layers bytes).outcome (layers_of_loop bytes) target

abbrev pub asked_of : List ℕ → ℕ → LoopAsked
asked_of bytes target = record { outcome = outcome_asked bytes target; table = (loop_layers bytes).table }

-- SECOND: the rows of the recording, where the loop has what the target rests on
abbrev pub rows_asked : List ℕ → ℕ → Recording → RowsRead
rows_asked bytes target recording = rows_for (outcome_asked bytes target) recording

-- THIRD: the rows joined
abbrev pub imported_of : Joined → Imported
imported_of (Ok joined) = imported_units joined.closure joined.units joined.rows
imported_of (Err refusal) = Err (Refused refusal)

abbrev pub imported_by : RowsRead → Joined → Imported
imported_by (Ok count) joined = imported_of joined
imported_by (Err unread) joined = Err unread

-- the row table of rows
abbrev pub table_of : List Row → Table
table_of rows = table (map index_in rows) (map decoding_in rows) (map match_in rows)

-- OF A RECORDING IN ONE PIECE, where there are places for so many rows
abbrev pub recording_with : ℕ → List ℕ → List ℕ → Recording
recording_with places bytes packets = answer_of (found_in (pid_table bytes) packets) places

abbrev pub import_rows : ℕ → List ℕ → ℕ → List ℕ → RowsRead
import_rows places bytes target packets = rows_asked bytes target (recording_with places bytes packets)

abbrev pub import_of : ℕ → List ℕ → ℕ → List ℕ → Room → Imported
import_of places bytes target packets room =
    imported_by (import_rows places bytes target packets) (joined_of places (layers_of_loop bytes) target (table_of (rows_of bytes packets)) room)

-- the places that a work space for `most` rows and the columns have together
abbrev pub places_for : ℕ → Columns → ℕ
places_for most before = min most (room_in before)

-- The columns hold the rows as soon as these are accepted, whatever joining says of them: 'a refusal 14 to 18 names a row'.
abbrev pub import_columns : ℕ → List ℕ → ℕ → List ℕ → Columns → Columns
import_columns places bytes target packets before = columns_with (rows_of bytes packets) (import_rows places bytes target packets) before

-- What the lists hold: the units, and after them what stood there; after a refusal all is as it was.
abbrev pub lists_with : Layers → Table → Imported → Lists → Lists
lists_with layers t (Ok joined) before = lists_over t (frame_of layers joined.closure t) before
lists_with layers t (Err unread) before = before

abbrev pub import_lists : List ℕ → List ℕ → Imported → Lists → Lists
import_lists bytes packets answer before = lists_with (layers_of_loop bytes) (table_of (rows_of bytes packets)) answer before

-- OF A RECORDING THAT WAS READ ALREADY, with its answer and the columns in which its rows lie: rows that a column or the work space does not hold are 13 at place 0
abbrev pub columns_hold : Table → ℕ
columns_hold t = min (length t.indices) (min (length t.decodings) (length t.matches))

abbrev pub held_rows : ℕ → RowsRead → RowsRead
held_rows room (Ok count) = cond (ltb room count) (Err (Refused (OutOfRange 0))) (Ok count)
held_rows room (Err unread) = Err unread

abbrev pub count_of : RowsRead → ℕ
count_of (Ok count) = count
count_of (Err unread) = 0

abbrev pub first_rows : ℕ → Table → Table
first_rows count t = table (take count t.indices) (take count t.decodings) (take count t.matches)

-- the rows that are there, and the first so many of the columns joined
abbrev pub rows_held : ℕ → Table → RowsRead → RowsRead
rows_held most t rows = held_rows (min most (columns_hold t)) rows

abbrev pub join_held : ℕ → Layers → ℕ → Table → Room → RowsRead → Imported
join_held most layers target t room held = imported_by held (joined_of most layers target (first_rows (count_of held) t) room)

abbrev pub lists_held : Layers → Table → RowsRead → Imported → Lists → Lists
lists_held layers t held answer before = lists_with layers (first_rows (count_of held) t) answer before

-- with the loop read and its target asked
abbrev pub rows_to_join : ℕ → List ℕ → ℕ → Recording → Table → RowsRead
rows_to_join most bytes target recording t = rows_held most t (rows_asked bytes target recording)

abbrev pub import_told : ℕ → List ℕ → ℕ → Recording → Table → Room → Imported
import_told most bytes target recording t room = join_held most (layers_of_loop bytes) target t room (rows_to_join most bytes target recording t)

abbrev pub lists_told : ℕ → List ℕ → ℕ → Recording → Table → Imported → Lists → Lists
lists_told most bytes target recording t answer before = lists_held (layers_of_loop bytes) t (rows_to_join most bytes target recording t) answer before

-- the number and the place of a refusal; 0 where there is none
abbrev pub number_of : Imported → ℕ
number_of (Ok joined) = 0
number_of (Err (Refused refusal)) = Refusals.number_of refusal
number_of (Err (NotRead refusal packet)) = Refusals.number_of refusal

abbrev pub place_of : Imported → ℕ
place_of (Ok joined) = 0
place_of (Err (Refused refusal)) = Refusals.place_of refusal
place_of (Err (NotRead refusal packet)) = packet
