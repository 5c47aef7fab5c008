-- That the functions for C which join rows keep their promises: what each equals by its contract tells what its call answers.
-- Assumes nothing.
use Rattle.join_answers.specs.Answer.{joined_units, Joined}
use Rattle.std.specs.Prelude.{ℕ, ◌≤◌, ◌^◌, Bool, true, false, cond, List, [], ◌∷◌, ◌≡◌, refl, ltb, length, Err, Ok}
use Rattle.std.proofs.Math.Option.{some}
use Rattle.std.proofs.Common.{◌∙◌, arith}
use Rattle.buffers.specs.Buffers.{over}
use Rattle.combinators.specs.Bools.{either_way}
use Rattle.vocabulary.specs.declared.refusal.Refusal.TheVariants.{NoRoom}
use Rattle.vocabulary.specs.declared.stream_types.Reading.{Reading}
use Rattle.closure.specs.declared.Layers.{Layers}
use Rattle.es_loop.specs.Reading.{loop_read}
use Rattle.rows.specs.Table.{Table, most_rows}
use Rattle.unit_lists.specs.Sequence.{Lists}
use Rattle.join_answers.specs.Joining.{room_of, joined_of, lists_after, most_long, longest_table}
use Rattle.join_answers.specs.Steps.{spaces}
use Rattle.importing.specs.Importing.{layers_read, import_of}
use Rattle.c_answers.specs.Answer.{Asked}
use Rattle.c_answers.specs.Answers.{asked_for}
use Rattle.thoquenry_joins.specs.Joins.{JoinReply, layers_given, with_summary, join_reply, join_over, import_asked}
use Rattle.thoquenry_joins.proofs.Bounds.{Few, few_joined, few_imported}
use Rattle.promised.specs.Calls.{is_listed, Promised}
use Rattle.promised.specs.Shown.{listed_first}
use Rattle.promised.specs.Joiners.{joined_number, join_rows, join_long, ImportGiven as BaseImportGiven, import_loop}
use Rattle.promised.proofs.Joiners.{rows_joined_computed, long_joined_computed, import_computed}
use Rattle.demands.specs.Told.{Told, counts, refuses, not_a_call, Says, Retells, for_c}
use Rattle.demands.proofs.ToldShown.{code, leaves, number_told, Fits, told_promised, retold, told_by_year, each_year, by_year, asked}
use Rattle.demands.specs.JoinsForC.{Filled, filled, joined_told, JoinGiven, rows_given, thq_join, thq_join_long, ImportGiven, thq_import}

-- the reply that the function's contract names tells this
abbrev TellsFilled : Told Filled → Filled → JoinReply → Type 0
TellsFilled t before reply = (reply.answer ≡ code t) × (reply.after ≡ (leaves t before).after) × (reply.summary ≡ (leaves t before).summary)

module _ (layers : Layers) (rows : Table) (before : Filled) where
  abbrev joined_said : Joined → Told Filled
  joined_said joined = joined_told before.summary joined (lists_after layers rows joined before.after)

  joined_tells : (joined : Joined)
      → TellsFilled (joined_said joined) before (join_reply layers rows (with_summary (length before.summary) joined) before.after before.summary)
  joined_tells (Err refusal) = (refl, refl, refl)
  joined_tells (Ok joined) = by (ltb (length before.summary) 2)
    where
      by : (short : Bool) → TellsFilled
          (cond short (refuses NoRoom)
          (counts joined.rows (filled (lists_after layers rows (joined_units joined.closure joined.units joined.rows) before.after) (over (joined.closure ∷ joined.units ∷ []) before.summary)))) before
          (join_reply layers rows (cond short (Err NoRoom) (joined_units joined.closure joined.units joined.rows)) before.after before.summary)
      by true = (refl, refl, refl)
      by false = (refl, refl, refl)

joined_fits : (summary : List ℕ) (joined : Joined) (after : Lists) → Few joined → Fits (joined_told summary joined after)
joined_fits summary (Err refusal) after h = h
joined_fits summary (Ok joined) after h = either_way Fits (ltb (length summary) 2) (refuses NoRoom) _ (omega arith) h

joined_listed : (numbers : List ℕ) → is_listed numbers (some 17) ≡ true → (summary : List ℕ) (joined : Joined) (after : Lists)
    → is_listed numbers (joined_number joined) ≡ true → is_listed numbers (number_told (joined_told summary joined after)) ≡ true
joined_listed numbers no_room summary (Err refusal) after e = e
joined_listed numbers no_room summary (Ok joined) after e =
    either_way (λ (t : Told Filled). is_listed numbers (number_told t) ≡ true) (ltb (length summary) 2) (refuses NoRoom) _ no_room refl

-- what the contract ensures, by the reply that it names
by_reply : (t : Told Filled) (before : Filled) (reply : JoinReply) (answer : ℕ) (after : Filled) → TellsFilled t before reply
    → (answer ≡ reply.answer) × (after.after ≡ reply.after) × (after.summary ≡ reply.summary) → (answer ≡ code t) × (after ≡ leaves t before)
by_reply t before reply answer after p e = (e.0 ∙ p.0, λ i. record { after = (e.1 ∙ p.1) i; summary = (e.2 ∙ p.2) i })

-- ---- thq_join and thq_join_long

abbrev rows_joined : JoinGiven → Joined
rows_joined given =
    joined_of given.most (layers_given given.present given.embedded) given.target given.rows (room_of given.before.after)

abbrev told_join : JoinGiven → Told Filled
told_join given = joined_said (layers_given given.present given.embedded) given.rows given.before (rows_joined given)

abbrev join_for : JoinGiven → JoinReply
join_for given =
    join_over given.most (layers_given given.present given.embedded) given.target given.rows given.before.after given.before.summary

join_replied : (given : JoinGiven) → TellsFilled (told_join given) given.before (join_for given)
join_replied given = joined_tells (layers_given given.present given.embedded) given.rows given.before (rows_joined given)

join_fits : (given : JoinGiven) → Fits (told_join given)
join_fits given =
    joined_fits given.before.summary (rows_joined given) _
    (few_joined given.most given.told_in_56_bits (layers_given given.present given.embedded) given.target given.rows (room_of given.before.after))

pub thq_rows_joined : Promised (for_c thq_join)
thq_rows_joined =
    told_promised thq_join told_join (record {
      asks_nothing = λ run. tt;
      ensured = λ run e. (let given = thq_join.given run in
          by_reply (told_join given) given.before (join_for given) (thq_join.answer run) (thq_join.after run) (join_replied given) (e.0, e.1.0, e.1.1));
      exactly = λ given answer after. retold rows_joined_computed (rows_given given) (joined_told given.before.summary) given.before answer after;
      fits = join_fits;
      listed = λ given. joined_listed join_rows.numbers refl given.before.summary (rows_joined given) _ (rows_joined_computed.listed (rows_given given));
      without_0 = refl;
    })

pub thq_long_joined : Promised (for_c thq_join_long)
thq_long_joined =
    told_promised thq_join_long told_join (record {
      asks_nothing = λ run. tt;
      ensured = λ run e. (let given = thq_join_long.given run in
          by_reply (told_join given) given.before (join_for given) (thq_join_long.answer run) (thq_join_long.after run) (join_replied given) (e.0, e.1.0, e.1.1));
      exactly = λ given answer after. retold long_joined_computed (rows_given given) (joined_told given.before.summary) given.before answer after;
      fits = join_fits;
      listed = λ given. joined_listed join_long.numbers refl given.before.summary (rows_joined given) _ (long_joined_computed.listed (rows_given given));
      without_0 = refl;
    })

-- ---- thq_import

abbrev loop_given : ImportGiven → Reading → BaseImportGiven
loop_given given reading =
    record { reading = reading; bytes = given.bytes; target = given.target; rows = given.rows; before = given.before.after }

abbrev imported_under : ImportGiven → Reading → Joined
imported_under given reading = import_of reading given.bytes given.target given.rows (room_of given.before.after)

abbrev import_under : ImportGiven → Reading → Told Filled
import_under given reading = joined_said (layers_read (loop_read reading given.bytes)) given.rows given.before (imported_under given reading)

abbrev told_import : ImportGiven → Told Filled
told_import given = told_by_year given.reading (import_under given)

abbrev import_for : ImportGiven → Asked → JoinReply
import_for given a = import_asked a given.bytes given.target given.rows given.before.after given.before.summary

import_replied : (given : ImportGiven) → TellsFilled (told_import given) given.before (import_for given (asked_for given.reading))
import_replied given =
    asked (λ (a : Asked) (t : Told Filled). TellsFilled t given.before (import_for given a)) (import_under given) given.reading
    (λ reading. joined_tells (layers_read (loop_read reading given.bytes)) given.rows given.before (imported_under given reading))
    (refl, refl, refl)

pub thq_loop_imported : Promised (for_c thq_import)
thq_loop_imported =
    told_promised thq_import told_import (record {
      asks_nothing = λ run. tt;
      ensured = λ run e. (let given = thq_import.given run in
          by_reply (told_import given) given.before (import_for given (asked_for given.reading)) (thq_import.answer run) (thq_import.after run)
          (import_replied given) (e.0, e.1.0, e.1.1));
      exactly = λ given answer after. by_year given.reading (import_under given) given.before answer after
          (λ reading. retold import_computed (loop_given given reading) (joined_told given.before.summary) given.before answer after);
      fits = λ given. each_year Fits given.reading (import_under given)
          (λ reading. joined_fits given.before.summary (imported_under given reading) _
          (few_imported reading given.bytes given.target given.rows (room_of given.before.after))) tt;
      listed = λ given. each_year (λ (t : Told Filled). is_listed thq_import.numbers (number_told t) ≡ true) given.reading (import_under given)
          (λ reading. joined_listed thq_import.numbers refl given.before.summary (imported_under given reading) _
          (listed_first import_loop.numbers (255 ∷ []) (joined_number (imported_under given reading)) (import_computed.listed (loop_given given reading)))) refl;
      without_0 = refl;
    })
