-- The promises of the whole import, `long_imports::import` and `import_long`, the calls that stand in specs/Imports.antt.
-- Assumes nothing.
use Rattle.std.specs.Prelude.{ℕ, true, List, ◌≡◌, refl, Err, Ok}
use Rattle.std.proofs.Math.Option.{Option, some}
use Rattle.std.proofs.Common.{◌∙◌, ap}
use Rattle.vocabulary.specs.Refusals.{number_of}
use Rattle.closure.specs.declared.Layers.{Layers}
use Rattle.rows.specs.Table.{Table}
use Rattle.unit_lists.specs.Sequence.{Lists}
use Rattle.join_answers.specs.Answer.{Joined}
use Rattle.join_answers.specs.Meaning as Joining
use Rattle.recording_imports.specs.Answer.{Imported}
use Rattle.recording_imports.specs.declared.Unread.TheVariants.{Refused, NotRead}
use Rattle.recording_imports.specs.Imports.{imported_of}
use Rattle.recording_meaning.specs.Meaning.{Answers, loop_refused, no_closure, faulty, not_read, too_many, joined}
use Rattle.recording_meaning.proofs.Meant.{import_meant, import_only}
use Rattle.promised.specs.Calls.{is_listed, Promised}
use Rattle.promised.specs.Shown.{Computed, promised, listed_first, listed_second, not_refused}
use Rattle.promised.specs.Readers.{read_loop, read_listed, closure_of_target, target_listed}
use Rattle.promised.specs.Joiners.{joining_numbers}
use Rattle.recording_promises.specs.Numbers.{recording_numbers}
use Rattle.recording_promises.proofs.Numbers.{recording_listed}
use Rattle.recording_promises.specs.Imports.{ImportGiven, RightImport, asked_numbers, import_long, import_numbers, import_packets, import_to, imported_number, later_numbers, lists_to}

-- ---- every refusal has a listed number

joined_listed : {most : ℕ} {layers : Layers} {target closure : ℕ} {rows : Table} {before after : Lists} {answer : Joined}
    → Joining.AnswersOver most layers target closure rows before answer after → is_listed joining_numbers (imported_number (imported_of answer)) ≡ true
joined_listed (Joining.wrong_shape_lem a) = refl
joined_listed (Joining.out_of_range_lem a b) = refl
joined_listed (Joining.order_broken a b c) = refl
joined_listed (Joining.no_assembly a b) = refl
joined_listed (Joining.in_two_units a b c) = refl
joined_listed (Joining.too_far_apart a b c d) = refl
joined_listed (Joining.no_room a b c d e f) = refl
joined_listed (Joining.joined a b c d) = refl

later : (number : Option ℕ) → is_listed later_numbers number ≡ true → is_listed import_numbers number ≡ true
later number e = listed_second read_loop.numbers asked_numbers number (listed_second closure_of_target.numbers later_numbers number e)

of_recording : (number : Option ℕ) → is_listed recording_numbers number ≡ true → is_listed import_numbers number ≡ true
of_recording number e = later number (listed_first recording_numbers joining_numbers number e)

import_listed : {places : ℕ} {bytes : List ℕ} {target : ℕ} {packets : List ℕ} {before after : Lists} {answer : Imported}
    → Answers places bytes target packets before answer after → is_listed import_numbers (imported_number answer) ≡ true
import_listed (loop_refused {refusal} a) = listed_first read_loop.numbers asked_numbers (some (number_of refusal)) (read_listed a)
import_listed (no_closure {refusal = refusal} a) =
    listed_second read_loop.numbers asked_numbers (some (number_of refusal)) (listed_first closure_of_target.numbers later_numbers (some (number_of refusal)) (target_listed a.target_answered))
import_listed (faulty {fault = fault} a r) = of_recording (some (number_of fault)) (recording_listed r)
import_listed (not_read {refusal = refusal} a r) = of_recording (some (number_of refusal)) (recording_listed r)
import_listed (too_many a r) = refl
import_listed (joined {answer = answer} a r c f over) =
    later (imported_number (imported_of answer)) (listed_second recording_numbers joining_numbers (imported_number (imported_of answer)) (joined_listed over))

kept : (given : ImportGiven) (answer : Imported) {number : ℕ} → imported_number answer ≡ some number → lists_to given answer ≡ given.before
kept given (Ok found) e = not_refused e
kept given (Err (Refused refusal)) e = refl
kept given (Err (NotRead refusal packet)) e = refl

import_right : (given : ImportGiven) → RightImport given (import_to given) (lists_to given (import_to given))
import_right given = import_meant given.places given.bytes given.target given.packets given.before (record { is_answer = refl; is_after = refl })

import_alone : (given : ImportGiven) {answer : Imported} {after : Lists} → RightImport given answer after
    → (answer ≡ import_to given) × (after ≡ lists_to given (import_to given))
import_alone given means =
    let c = import_only given.places given.bytes given.target given.packets given.before means in
    (c.is_answer, c.is_after ∙ ap (lists_to given) c.is_answer)

pub packets_computed : Computed import_packets import_to (λ given. lists_to given (import_to given))
packets_computed =
    record {
      asks_nothing = λ run. tt;
      ensured = λ run e. (e.0, e.1 ∙ ap (lists_to (import_packets.given run)) e.0);
      right = import_right;
      nothing_else = import_alone;
      listed = λ given. import_listed (import_right given);
      untouched = λ given number e. kept given (import_to given) e;
    }

pub packets_imported : Promised import_packets
packets_imported = promised packets_computed

pub long_computed : Computed import_long import_to (λ given. lists_to given (import_to given))
long_computed =
    record {
      asks_nothing = λ run. tt;
      ensured = λ run e. (e.0, e.1.1 ∙ ap (lists_to (import_long.given run)) e.0);
      right = import_right;
      nothing_else = import_alone;
      listed = λ given. import_listed (import_right given);
      untouched = λ given number e. kept given (import_to given) e;
    }

pub long_imported : Promised import_long
long_imported = promised long_computed
