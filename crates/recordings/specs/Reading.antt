-- THE ANSWER for a recording: its rows, or the refusal: the lowest of 30 to 33, then the lowest of 20 to 24, each at its earliest packet, then 13.
-- Assumes nothing.
use Rattle.std.specs.Prelude.{ℕ, min, cond, List, ltb, eqb, Err, Ok}
use Rattle.vocabulary.specs.declared.refusal.Refusal.{Refusal}
use Rattle.vocabulary.specs.declared.refusal.Refusal.TheVariants.{NotVideoHeader, NoPts, FieldsDoNotFit, WrongMarker, PtsBeforeDts, LostSync, CounterGap, OutsidePacket, Scrambled}
use Rattle.vocabulary.specs.Refusals as Refusals
use Rattle.unit_starts.specs.declared.Found.{Found}
use Rattle.unit_starts.specs.Finding.{found_in, rows_in}
use Rattle.recording_rows.specs.Columns.{Columns, room_in, over_all}
use Rattle.recordings.specs.Answer.{Recording}
use Rattle.recordings.specs.declared.RecordingFault.TheVariants.{Faulty, NotRead, TooManyRows}

-- the refusal of packets that has a number, and that of PES headers
abbrev pub fault_of : ℕ → ℕ → Refusal
fault_of number packet =
    cond (eqb number 30) (LostSync packet)
    (cond (eqb number 31) (CounterGap packet)
    (cond (eqb number 32) (OutsidePacket packet) (Scrambled packet)))

abbrev pub header_refusal : ℕ → Refusal
header_refusal number =
    cond (eqb number 20) NotVideoHeader
    (cond (eqb number 21) NoPts
    (cond (eqb number 22) FieldsDoNotFit
    (cond (eqb number 23) WrongMarker PtsBeforeDts)))

-- of what was found, and of the rows that there is room for
abbrev pub answer_of : Found → ℕ → Recording
answer_of f room =
    cond (ltb f.fault.number 34) (Err (Faulty (fault_of f.fault.number f.fault.packet)))
    (cond (ltb f.refusal.number 25) (Err (NotRead (header_refusal f.refusal.number) f.refusal.packet))
    (cond (ltb room f.rows) (Err TooManyRows) (Ok f.rows)))

-- of a recording, where so many packets can be noted
abbrev pub recording_of : List ℕ → List ℕ → ℕ → Columns → Recording
recording_of table bytes places before = answer_of (found_in table bytes) (min places (room_in before))

abbrev pub rows_count : Recording → ℕ
rows_count (Ok count) = count
rows_count (Err fault) = 0

-- what the columns hold: the rows, and after a refusal all is as it was
abbrev pub columns_after : List ℕ → List ℕ → Recording → Columns → Columns
columns_after table bytes (Ok count) before = over_all (rows_in table bytes) before
columns_after table bytes (Err fault) before = before

-- the number and the place of a refusal; 0 where there is none
abbrev pub number_of : Recording → ℕ
number_of (Ok count) = 0
number_of (Err (Faulty fault)) = Refusals.number_of fault
number_of (Err (NotRead refusal packet)) = Refusals.number_of refusal
number_of (Err TooManyRows) = 13

abbrev pub place_of : Recording → ℕ
place_of (Ok count) = 0
place_of (Err (Faulty fault)) = Refusals.place_of fault
place_of (Err (NotRead refusal packet)) = packet
place_of (Err TooManyRows) = 0
