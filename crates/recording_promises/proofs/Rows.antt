-- The promise of `recording_imports::read_rows`, the call that stands in specs/Rows.antt.
-- Assumes nothing.
use Rattle.std.specs.Prelude.{ℕ, min, true, List, ◌≡◌, refl, Err, Ok}
use Rattle.std.proofs.Math.Option.{some}
use Rattle.std.proofs.Common.{◌∙◌, ap}
use Rattle.vocabulary.specs.Refusals.{number_of}
use Rattle.recording_rows.specs.Columns.{Columns, room_in}
use Rattle.recording_imports.specs.Answer.{RowsRead}
use Rattle.recording_imports.specs.declared.Unread.TheVariants.{Refused, NotRead}
use Rattle.recording_imports.specs.Rows.{rows_under, columns_under}
use Rattle.recording_meaning.specs.Rows.{ReadsRows, loop_refused, faulty, not_read, too_many, all_rows}
use Rattle.recording_meaning.proofs.RowsMeant.{rows_meant, rows_only}
use Rattle.promised.specs.Calls.{is_listed, Promised}
use Rattle.promised.specs.Shown.{Computed, promised, listed_first, listed_second, not_refused}
use Rattle.promised.specs.Readers.{read_loop, read_listed}
use Rattle.recording_promises.specs.Numbers.{recording_numbers}
use Rattle.recording_promises.proofs.Numbers.{recording_listed}
use Rattle.recording_promises.specs.Rows.{RowsGiven, read_rows, rows_number}

rows_listed : {bytes packets : List ℕ} {room : ℕ} {before after : Columns} {answer : RowsRead} → ReadsRows bytes packets room before answer after
    → is_listed read_rows.numbers (rows_number answer) ≡ true
rows_listed (loop_refused {refusal} a) = listed_first read_loop.numbers recording_numbers (some (number_of refusal)) (read_listed a)
rows_listed (faulty {fault = fault} u r) = listed_second read_loop.numbers recording_numbers (some (number_of fault)) (recording_listed r)
rows_listed (not_read {refusal = refusal} u r) = listed_second read_loop.numbers recording_numbers (some (number_of refusal)) (recording_listed r)
rows_listed (too_many u r) = refl
rows_listed (all_rows u g) = refl

abbrev rows_to : RowsGiven → RowsRead
rows_to given = rows_under given.bytes given.packets given.places given.before

kept : (given : RowsGiven) (answer : RowsRead) {number : ℕ} → rows_number answer ≡ some number → columns_under given.bytes given.packets answer given.before ≡ given.before
kept given (Ok count) e = not_refused e
kept given (Err (Refused refusal)) e = refl
kept given (Err (NotRead refusal packet)) e = refl

pub rows_computed : Computed read_rows rows_to (λ given. columns_under given.bytes given.packets (rows_to given) given.before)
rows_computed =
    record {
      asks_nothing = λ run. tt;
      ensured = λ run e. (let given = read_rows.given run in
          (e.0, e.1 ∙ ap (λ (r : RowsRead). columns_under given.bytes given.packets r given.before) e.0));
      right = right;
      nothing_else = λ given means. (let c = rows_only given.bytes given.packets (min given.places (room_in given.before)) given.before means in
          (c.is_answer, c.is_after ∙ ap (λ (r : RowsRead). columns_under given.bytes given.packets r given.before) c.is_answer));
      listed = λ given. rows_listed (right given);
      untouched = λ given number e. kept given (rows_to given) e;
    }
  where
    right : (given : RowsGiven) → read_rows.Means given (rows_to given) (columns_under given.bytes given.packets (rows_to given) given.before)
    right given =
        rows_meant given.bytes given.packets (min given.places (room_in given.before)) given.before (record { is_answer = refl; is_after = refl })

pub rows_are_read : Promised read_rows
rows_are_read = promised rows_computed
