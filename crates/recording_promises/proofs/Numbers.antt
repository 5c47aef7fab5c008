-- Every refusal of a recording, of its rows under a loop and of the whole import has one of the numbers of specs/Numbers.antt.
-- Assumes nothing.
use Rattle.recordings.specs.declared.RecordingFault.{RecordingFault}
use Rattle.std.specs.Prelude.{ℕ, true, cond, List, ◌≡◌, refl, eqb, ltb, Err, Ok}
use Rattle.std.proofs.Math.Option.{some}
use Rattle.std.proofs.Common.{◌∙◌, ap}
use Rattle.combinators.specs.Bools.{either_way}
use Rattle.vocabulary.specs.declared.refusal.Refusal.{Refusal}
use Rattle.vocabulary.specs.declared.refusal.Refusal.TheVariants.{NotVideoHeader, NoPts, FieldsDoNotFit, WrongMarker, PtsBeforeDts, LostSync, CounterGap, OutsidePacket, Scrambled}
use Rattle.vocabulary.specs.Refusals.{number_of}
use Rattle.unit_starts.specs.declared.Found.{Found}
use Rattle.unit_starts.specs.Finding.{found_in}
use Rattle.recordings.specs.Answer.{Recording}
use Rattle.recordings.specs.Reading.{fault_of, header_refusal, answer_of}
use Rattle.recordings.specs.Meaning as Recordings
use Rattle.recordings.proofs.AnswerMeant as recordings
use Rattle.promised.specs.Calls.{is_listed}
use Rattle.recording_promises.specs.Numbers.{recording_number, recording_numbers}

abbrev Listed : Recording → Type 0
Listed recording = is_listed recording_numbers (recording_number recording) ≡ true

abbrev Named : Refusal → Type 0
Named refusal = is_listed recording_numbers (some (number_of refusal)) ≡ true

fault_named : (number packet : ℕ) → Named (fault_of number packet)
fault_named number packet =
    either_way Named (eqb number 30) (LostSync packet) (cond (eqb number 31) (CounterGap packet) (cond (eqb number 32) (OutsidePacket packet) (Scrambled packet))) refl
    (either_way Named (eqb number 31) (CounterGap packet) (cond (eqb number 32) (OutsidePacket packet) (Scrambled packet)) refl
    (either_way Named (eqb number 32) (OutsidePacket packet) (Scrambled packet) refl refl))

header_named : (number : ℕ) → Named (header_refusal number)
header_named number =
    either_way Named (eqb number 20) NotVideoHeader
    (cond (eqb number 21) NoPts (cond (eqb number 22) FieldsDoNotFit (cond (eqb number 23) WrongMarker PtsBeforeDts))) refl
    (either_way Named (eqb number 21) NoPts (cond (eqb number 22) FieldsDoNotFit (cond (eqb number 23) WrongMarker PtsBeforeDts)) refl
    (either_way Named (eqb number 22) FieldsDoNotFit (cond (eqb number 23) WrongMarker PtsBeforeDts) refl
    (either_way Named (eqb number 23) WrongMarker PtsBeforeDts refl refl)))

answer_listed : (f : Found) (room : ℕ) → Listed (answer_of f room)
answer_listed f room =
    either_way Listed (ltb f.fault.number 34) (Err (RecordingFault.Faulty (fault_of f.fault.number f.fault.packet)))
    (cond (ltb f.refusal.number 25) (Err (RecordingFault.NotRead (header_refusal f.refusal.number) f.refusal.packet)) (cond (ltb room f.rows) (Err RecordingFault.TooManyRows) (Ok f.rows)))
    (fault_named f.fault.number f.fault.packet)
    (either_way Listed (ltb f.refusal.number 25) (Err (RecordingFault.NotRead (header_refusal f.refusal.number) f.refusal.packet)) (cond (ltb room f.rows) (Err RecordingFault.TooManyRows) (Ok f.rows))
    (header_named f.refusal.number)
    (either_way Listed (ltb room f.rows) (Err RecordingFault.TooManyRows) (Ok f.rows) refl refl))

pub recording_listed : {table packets : List ℕ} {room : ℕ} {recording : Recording} → Recordings.Answers table packets room recording
    → is_listed recording_numbers (recording_number recording) ≡ true
recording_listed {table} {packets} {room} r =
    ap (λ (x : Recording). is_listed recording_numbers (recording_number x)) (recordings.answer_only table packets room r) ∙ answer_listed (found_in table packets) room
