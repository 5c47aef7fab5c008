-- The rows for C: the answer as one number, and the columns that go with it.
-- Assumes nothing.
use Prim.Native.Nat.{ℕ}
use mathlib.Core.List.{List}
use mathlib.Core.Path.{◌≡◌, ap, ◌∙◌}
use Rattle.loop_layers.specs.declared.table.TableRead.{TableRead}
use Rattle.unit_starts.specs.Finding.{rows_in}
use Rattle.recording_rows.specs.Columns.{Columns}
use Rattle.recordings.specs.Reading.{recording_of}
use Rattle.recording_imports.specs.Answer.{RowsRead}
use Rattle.recording_imports.specs.Rows.{loop_layers, pid_table_of, rows_for, columns_with, columns_under}
use Rattle.recording_imports.proofs.Told.{under_loop}
use Rattle.packet_answers.specs.Answers.{rows_answer}
use Rattle.thoquenry_packets.specs.Calls.{rows_call}

pub rows_left : (bytes packets : List ℕ) (places : ℕ) (before : Columns) {read : TableRead} {table : List ℕ} {rows : RowsRead} {after : Columns} {r : ℕ}
    → read ≡ loop_layers bytes → table ≡ pid_table_of read.table → rows ≡ rows_for read.outcome (recording_of table packets places before)
    → after ≡ columns_with (rows_in table packets) rows before → r ≡ rows_answer rows
    → (r ≡ (rows_call bytes packets places before).answer) × (after ≡ (rows_call bytes packets places before).after)
rows_left bytes packets places before {rows = rows} loop table read content a =
    let under = under_loop bytes packets places before loop table read content in
    (a ∙ ap rows_answer under.0, under.1 ∙ ap (λ (x : RowsRead). columns_under bytes packets x before) under.0)
