-- What a recording told, as the answer under a loop, with the columns as they then are.
-- Assumes nothing.
use Rattle.std.specs.Prelude.{Ok, Err}
use Prim.Native.Nat.{ℕ}
use mathlib.Core.List.{List}
use mathlib.Core.Path.{◌≡◌, refl, sym, ap, ◌∙◌}
use Rattle.es_loop.specs.Answer.{Outcome}
use Rattle.loop_layers.specs.declared.table.TableRead.{TableRead}
use Rattle.unit_starts.specs.Finding.{rows_in}
use Rattle.recording_rows.specs.Columns.{Columns}
use Rattle.recordings.specs.Answer.{Recording}
use Rattle.recordings.specs.declared.RecordingFault.TheVariants.{Faulty, NotRead, TooManyRows}
use Rattle.recordings.specs.Reading.{recording_of, columns_after}
use Rattle.recording_imports.specs.Answer.{RowsRead}
use Rattle.recording_imports.specs.Rows.{loop_layers, pid_table_of, rows_told, rows_for, rows_under, columns_with, columns_under}

-- the columns go by what the recording told
pub same_columns : (table packets : List ℕ) (recording : Recording) (before : Columns)
    → columns_after table packets recording before ≡ columns_with (rows_in table packets) (rows_told recording) before
same_columns table packets (Ok count) before = refl
same_columns table packets (Err (Faulty fault)) before = refl
same_columns table packets (Err (NotRead refusal packet)) before = refl
same_columns table packets (Err TooManyRows) before = refl

module _ (table packets : List ℕ) (places : ℕ) (before : Columns) where
  -- an answer with columns, after what was found of the loop
  abbrev pub Read : Outcome → RowsRead → Columns → Type 0
  Read outcome answer after =
      (answer ≡ rows_for outcome (recording_of table packets places before)) × (after ≡ columns_with (rows_in table packets) answer before)

  pub read_told : {outcome : Outcome} {recording : Recording} {answer : RowsRead} {after : Columns} → outcome ≡ Ok tt
      → recording ≡ recording_of table packets places before → after ≡ columns_after table packets recording before → answer ≡ rows_told recording
      → Read outcome answer after
  read_told {recording} accepted is content told = (
    told ∙ ap rows_told is ∙ sym (ap (λ (o : Outcome). rows_for o (recording_of table packets places before)) accepted),
    content ∙ same_columns table packets recording before ∙ ap (λ (r : RowsRead). columns_with (rows_in table packets) r before) (sym told),
  )

-- with the loop read, and its PIDs taken
pub under_loop : (bytes packets : List ℕ) (places : ℕ) (before : Columns) {read : TableRead} {table : List ℕ} {answer : RowsRead} {after : Columns}
    → read ≡ loop_layers bytes → table ≡ pid_table_of read.table
    → answer ≡ rows_for read.outcome (recording_of table packets places before) → after ≡ columns_with (rows_in table packets) answer before
    → (answer ≡ rows_under bytes packets places before) × (after ≡ columns_under bytes packets answer before)
under_loop bytes packets places before {read} {answer = answer} is pids a l =
    let same = pids ∙ ap (λ (r : TableRead). pid_table_of r.table) is in (
      a
          ∙ ap (λ (t : List ℕ). rows_for read.outcome (recording_of t packets places before)) pids
          ∙ ap (λ (r : TableRead). rows_for r.outcome (recording_of (pid_table_of r.table) packets places before)) is,
      l ∙ ap (λ (t : List ℕ). columns_with (rows_in t packets) answer before) same,
    )
