-- The promises of the calls that join rows to units, each of its function. The calls, and the numbers that they refuse with, stand in specs/Joiners.antt.
-- Assumes nothing.
use Rattle.std.specs.Prelude.{ℕ, true, List, ◌≡◌, refl, Err, Ok}
use Rattle.std.proofs.Math.Option.{some}
use Rattle.std.proofs.Common.{sym, ◌∙◌, ap, subst}
use Rattle.vocabulary.specs.declared.refusal.Refusal.{Refusal}
use Rattle.vocabulary.specs.Refusals.{number_of}
use Rattle.vocabulary.specs.declared.stream_types.Reading.{Reading}
use Rattle.closure.specs.declared.Layers.{Layers}
use Rattle.join_answers.specs.Answer.{Joined}
use Rattle.rows.specs.Table.{Table}
use Rattle.unit_lists.specs.Sequence.{Lists}
use Rattle.join_answers.specs.Joining.{frame_of, room_of, table_joined, joined_of, lists_after}
use Rattle.join_answers.specs.Steps.{framed_lists}
use Rattle.join_answers.specs.Meaning as Joining
use Rattle.join_answers.proofs.Cases.{IsOver, units_over, refused, is_over}
use Rattle.join_answers.proofs.Meant as joining
use Rattle.importing.specs.Importing.{import_of, imported_lists}
use Rattle.importing.specs.Meaning as Import
use Rattle.importing.proofs.Meant as import
use Rattle.promised.specs.Calls.{is_listed, Promised}
use Rattle.promised.specs.Shown.{Computed, promised, listed_first, listed_second, not_refused}
use Rattle.promised.specs.Readers.{read_loop, closure_of_target, read_listed, target_listed}
use Rattle.promised.specs.Joiners.{ImportGiven, RightRows, RowsGiven, TableGiven, import_loop, join_long, join_numbers, join_rows, join_table, joined_number, joining_numbers}

-- How such a call's promise is shown: a definition of its answer, and one of what the lists then hold by that answer.
record Joiner (Given : Type 0) : Type 0 where
  joined : Given → Joined
  before : Given → Lists
  lists_by : Given → Joined → Lists → Lists

module _ {Given : Type 0} (j : Joiner Given) where
  abbrev after : Given → Joined → Lists
  after given answer = j.lists_by given answer (j.before given)

  -- the two equalities by which such a call is promised
  equals : (given : Given) {answer : Joined} {lists : Lists} → answer ≡ j.joined given → lists ≡ after given answer
      → (answer ≡ j.joined given) × (lists ≡ after given (j.joined given))
  equals given e f = (e, f ∙ ap (after given) e)

  -- after a refusal the lists are as they were
  kept : (given : Given) → ((refusal : Refusal) → after given (Err refusal) ≡ j.before given) → (answer : Joined) (number : ℕ)
      → joined_number answer ≡ some number → after given answer ≡ j.before given
  kept given k (Ok joined) number e = not_refused e
  kept given k (Err r) number e = k r

table_listed : {most : ℕ} {layers : Layers} {target closure : ℕ} {rows : Table} {before after : Lists} {answer : Joined}
    → Joining.AnswersOver most layers target closure rows before answer after → is_listed joining_numbers (joined_number answer) ≡ true
table_listed (Joining.wrong_shape_lem a) = refl
table_listed (Joining.out_of_range_lem a b) = refl
table_listed (Joining.order_broken a b c) = refl
table_listed (Joining.no_assembly a b) = refl
table_listed (Joining.in_two_units a b c) = refl
table_listed (Joining.too_far_apart a b c d) = refl
table_listed (Joining.no_room a b c d e f) = refl
table_listed (Joining.joined a b c d) = refl

abbrev table_joiner : Joiner TableGiven
table_joiner =
    record {
      joined = λ given. table_joined given.most given.layers given.rows given.closure (room_of given.before);
      before = λ given. given.before;
      lists_by = λ given. framed_lists given.rows (frame_of given.layers given.closure given.rows);
    }

-- of an answer over the closure, what its units lay into the lists is told by the closure that it names, or by the one that was handed in
framed : {closure : ℕ} {answer : Joined} → IsOver closure answer → (layers : Layers) (rows : Table) (before : Lists)
    → lists_after layers rows answer before ≡ framed_lists rows (frame_of layers closure rows) answer before
framed units_over layers rows before = refl
framed refused layers rows before = refl

pub table_joined_computed : Computed join_table table_joiner.joined (λ given. after table_joiner given (table_joiner.joined given))
table_joined_computed =
    record {
      asks_nothing = λ ran. (ran.closed, ran.holds);
      ensured = λ ran e. equals table_joiner (join_table.given ran) e.0 e.1;
      right = right;
      nothing_else = λ given means. (let c = joining.table_only given.most given.layers given.target given.closure given.whole given.rows given.before means in
          equals table_joiner given c.is_answer (c.is_after ∙ framed (subst (IsOver given.closure) (sym c.is_answer) (over given)) given.layers given.rows given.before));
      listed = λ given. table_listed (right given);
      untouched = λ given. kept table_joiner given (λ r. refl) (table_joiner.joined given);
    }
  where
    over : (given : TableGiven) → IsOver given.closure (table_joiner.joined given)
    over given = is_over given.most given.layers given.rows given.closure (room_of given.before)

    right : (given : TableGiven) → join_table.Means given (table_joiner.joined given) (after table_joiner given (table_joiner.joined given))
    right given =
        subst (join_table.Means given (table_joiner.joined given)) (framed (over given) given.layers given.rows given.before)
        (joining.table_meant given.most given.layers given.target given.closure given.whole given.rows given.before)

pub table_joined_lem : Promised join_table
table_joined_lem = promised table_joined_computed

joining_listed : {most : ℕ} {layers : Layers} {target : ℕ} {rows : Table} {before after : Lists} {answer : Joined}
    → Joining.Answers most layers target rows before answer after → is_listed join_numbers (joined_number answer) ≡ true
joining_listed (Joining.no_closure {refusal} c) = listed_first closure_of_target.numbers joining_numbers (some (number_of refusal)) (target_listed c)
joining_listed (Joining.over_closure {answer = answer} c a) =
    listed_second closure_of_target.numbers joining_numbers (joined_number answer) (table_listed a)

abbrev rows_joiner : Joiner RowsGiven
rows_joiner =
    record {
      joined = λ given. joined_of given.most given.layers given.target given.rows (room_of given.before);
      before = λ given. given.before;
      lists_by = λ given. lists_after given.layers given.rows;
    }

rows_right_lem : (given : RowsGiven) → RightRows given (rows_joiner.joined given) (after rows_joiner given (rows_joiner.joined given))
rows_right_lem given = joining.joined_meant given.most given.layers given.target given.rows given.before

rows_only : (given : RowsGiven) {answer : Joined} {left : Lists} → RightRows given answer left
    → (answer ≡ rows_joiner.joined given) × (left ≡ after rows_joiner given (rows_joiner.joined given))
rows_only given means =
    let c = joining.joined_only given.most given.layers given.target given.rows given.before means in
    equals rows_joiner given c.is_answer c.is_after

pub long_joined_computed : Computed join_long rows_joiner.joined (λ given. after rows_joiner given (rows_joiner.joined given))
long_joined_computed =
    record {
      asks_nothing = λ run. tt;
      ensured = λ run e. equals rows_joiner (join_long.given run) e.0 e.1;
      right = rows_right_lem;
      nothing_else = rows_only;
      listed = λ given. joining_listed (rows_right_lem given);
      untouched = λ given. kept rows_joiner given (λ r. refl) (rows_joiner.joined given);
    }

pub long_joined : Promised join_long
long_joined = promised long_joined_computed

pub rows_joined_computed : Computed join_rows rows_joiner.joined (λ given. after rows_joiner given (rows_joiner.joined given))
rows_joined_computed =
    record {
      asks_nothing = λ run. tt;
      ensured = λ run e. equals rows_joiner (join_rows.given run) e.0 e.1;
      right = rows_right_lem;
      nothing_else = rows_only;
      listed = λ given. joining_listed (rows_right_lem given);
      untouched = λ given. kept rows_joiner given (λ r. refl) (rows_joiner.joined given);
    }

pub rows_joined : Promised join_rows
rows_joined = promised rows_joined_computed

import_listed : {reading : Reading} {bytes : List ℕ} {target : ℕ} {rows : Table} {before after : Lists} {answer : Joined}
    → Import.Answers reading bytes target rows before answer after → is_listed import_loop.numbers (joined_number answer) ≡ true
import_listed (Import.loop_refused {refusal} a) = listed_first read_loop.numbers join_numbers (some (number_of refusal)) (read_listed a)
import_listed (Import.loop_accepted streams {answer = answer} a layers j) =
    listed_second read_loop.numbers join_numbers (joined_number answer) (joining_listed j)

abbrev import_joiner : Joiner ImportGiven
import_joiner =
    record {
      joined = λ given. import_of given.reading given.bytes given.target given.rows (room_of given.before);
      before = λ given. given.before;
      lists_by = λ given. imported_lists given.reading given.bytes given.rows;
    }

pub import_computed : Computed import_loop import_joiner.joined (λ given. after import_joiner given (import_joiner.joined given))
import_computed =
    record {
      asks_nothing = λ run. tt;
      ensured = λ run e. equals import_joiner (import_loop.given run) e.0 e.1;
      right = right;
      nothing_else = λ given means. (let c = import.import_only given.reading given.bytes given.target given.rows given.before means in
          equals import_joiner given c.is_answer c.is_after);
      listed = λ given. import_listed (right given);
      untouched = λ given. kept import_joiner given (λ r. refl) (import_joiner.joined given);
    }
  where
    right : (given : ImportGiven) → import_loop.Means given (import_joiner.joined given) (after import_joiner given (import_joiner.joined given))
    right given =
        import.import_meant given.reading given.bytes given.target given.rows given.before (record { is_answer = refl; is_after = refl })

pub loop_imported : Promised import_loop
loop_imported = promised import_computed
