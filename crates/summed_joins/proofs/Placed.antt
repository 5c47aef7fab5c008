-- The whole import for C, step after step: the loop is asked, the recording read, and its rows joined with their summary.
-- Assumes nothing.
use Rattle.std.specs.Prelude.{Err, Ok}
use Rattle.recording_imports.specs.Answer.{imported_units, RowsRead, Imported}
use Prim.Native.Nat.{ℕ}
use mathlib.Core.Bool.{Bool, true, false, cond}
use mathlib.Core.List.{List}
use mathlib.Core.Path.{◌≡◌, refl, ap, sym, ◌∙◌}
use lib.Dec.{ltb}
use lib.ListN.{length}
use Rattle.vocabulary.specs.declared.refusal.Refusal.TheVariants.{NoRoom}
use Rattle.closure.specs.declared.Layers.{Layers}
use Rattle.rows.specs.Table.{Table}
use Rattle.unit_lists.specs.Sequence.{Lists}
use Rattle.join_answers.specs.Joining.{room_of}
use Rattle.unit_starts.specs.Finding.{rows_in}
use Rattle.recording_rows.specs.Columns.{Columns}
use Rattle.recordings.specs.Reading.{recording_of}
use Rattle.recording_imports.specs.declared.Unread.TheVariants.{Refused, NotRead}
use Rattle.recording_imports.specs.declared.LoopAsked.{LoopAsked}
use Rattle.recording_imports.specs.Rows.{pid_table_of, rows_for, rows_of, columns_with}
use Rattle.recording_imports.specs.Imports.{layers_of_loop, asked_of, table_of, import_of, places_for, import_columns, lists_with, count_of, first_rows, rows_held, join_held}
use Rattle.packet_answers.specs.Answers.{imported_answer}
use Rattle.long_imports.proofs.Whole.{table_in, imported_at}
use Rattle.import_summaries.specs.Summaries.{with_summary, summary_after}
use Rattle.import_summaries.proofs.Summed.{Left}
use Rattle.summed_joins.specs.Replies.{held_reply, import_placed}

-- what the lists hold, with the summary in mind: where that has no room they are as they were
units_summed : (layers : Layers) (t : Table) (closure units rows : ℕ) (before : Lists) (short : Bool)
    → lists_with layers t (cond short (Err (Refused NoRoom)) (imported_units closure units rows)) before ≡ cond short before (lists_with layers t (imported_units closure units rows) before)
units_summed layers t closure units rows before true = refl
units_summed layers t closure units rows before false = refl

as_before : (before : Lists) (short : Bool) → before ≡ cond short before before
as_before before true = refl
as_before before false = refl

lists_summed : (layers : Layers) (t : Table) (n : ℕ) (imported : Imported) (before : Lists)
    → lists_with layers t (with_summary n imported) before ≡ cond (ltb n 2) before (lists_with layers t imported before)
lists_summed layers t n (Ok joined) before = units_summed layers t joined.closure joined.units joined.rows before (ltb n 2)
lists_summed layers t n (Err (Refused refusal)) before = as_before before (ltb n 2)
lists_summed layers t n (Err (NotRead refusal packet)) before = as_before before (ltb n 2)

module _ (bytes : List ℕ) (target : ℕ) (packets : List ℕ) (most : ℕ) (before : Columns) (old : Lists) (summary : List ℕ) where
  abbrev pub places : ℕ
  places = places_for most before

  abbrev pub Placed : ℕ → Columns → Lists → List ℕ → Type 0
  Placed r after new sum =
      (r ≡ (import_placed places bytes target packets old summary).answer)
      × ((after ≡ import_columns places bytes target packets before)
      × ((new ≡ (import_placed places bytes target packets old summary).after) × (sum ≡ (import_placed places bytes target packets old summary).summary)))

  pub placed_at : {asked : LoopAsked} {pids : List ℕ} {n m : ℕ} {rows : RowsRead} {after : Columns} {r : ℕ} {new : Lists} {sum : List ℕ} → n ≡ most → m ≡ most
      → asked ≡ asked_of bytes target → pids ≡ pid_table_of asked.table → rows ≡ rows_for asked.outcome (recording_of pids packets n before)
      → after ≡ columns_with (rows_in pids packets) rows before → Left r new sum (held_reply m asked.table.layers target (table_in after) rows old summary)
      → Placed r after new sum
  placed_at {asked} {pids} {n} {m} {rows} {after} lent held loop table read laid left =
      let layers : Layers = asked.table.layers in
      let front : Table = first_rows (count_of (rows_held m (table_in after) rows)) (table_in after) in
      let answer : Imported = join_held m layers target (table_in after) (room_of old) (rows_held m (table_in after) rows) in
      let right : Imported = import_of places bytes target packets (room_of old) in
      let all : Table = table_of (rows_of bytes packets) in
      let whole = imported_at bytes target packets most before (room_of old) old lent held loop table read laid refl refl in
      let same : answer ≡ right = whole.0 in
      let same_lists : lists_with layers front answer old ≡ lists_with (layers_of_loop bytes) all answer old = whole.1.1 in (
        left.0 ∙ ap (λ (x : Imported). imported_answer (with_summary (length summary) x)) same,
        (
          whole.1.0,
          (
            left.1.0
                ∙ lists_summed layers front (length summary) answer old
                ∙ ap (λ (l : Lists). cond (ltb (length summary) 2) old l) (same_lists ∙ ap (λ (x : Imported). lists_with (layers_of_loop bytes) all x old) same)
                ∙ sym (lists_summed (layers_of_loop bytes) all (length summary) right old),
            left.1.1 ∙ ap (λ (x : Imported). summary_after (with_summary (length summary) x) summary) same,
          ),
        ),
      )
