-- The conditions of refusals 2 to 9 at one entry of a loop, given all its entries.
-- Assumes nothing.
use Rattle.std.specs.Prelude.{ℕ, Bool, false, cond, not, ◌&&◌, List, [], ◌∷◌, eqb, ltb, get_or, take, drop}
use Rattle.combinators.specs.Below.{some}
use Rattle.combinators.specs.Lists.{first_true}
use Rattle.framing.specs.Pieces.{whole}
use Rattle.vocabulary.specs.declared.stream_types.Reading.{Reading}
use Rattle.vocabulary.specs.declared.refusal.Refusal.{Refusal}
use Rattle.vocabulary.specs.declared.refusal.Refusal.TheVariants.{LoopTooLong, DoesNotFit, RepeatedPid, WrongLength, SecondRecord, TypeNotAllowed, WrongFlags, RepeatedLayerIndex, WrongEmbeddedIndex}
use Rattle.records.specs.declared.Record.{Record}
use Rattle.descriptors.specs.declared.looking.Seen.{Seen}
use Rattle.records.specs.Records.{is_layer, index_of}
use Rattle.implied.specs.Rule.{given}
use Rattle.judging.specs.Judging.{same_index, type_not_allowed, wrong_flags, wrong_embedded}
use Rattle.loop_entries.specs.declared.Stream.{Stream}
use Rattle.loop_faults.specs.declared.Fault.{Fault}
use Rattle.loop_entries.specs.Entries.{no_stream, pair_of, stream_of, marked_stream}

module _ (streams : List Stream) where
  abbrev pub stream_at : ℕ → Stream
  stream_at k = get_or streams k no_stream

  abbrev pub pid_at : ℕ → ℕ
  pid_at k = (stream_at k).pid

  abbrev pub type_at : ℕ → ℕ
  type_at k = (stream_at k).stream_type

  abbrev pub record_at : ℕ → Record
  record_at k = (stream_at k).seen.«record»

  -- 3: 'a PID seen in an earlier entry'
  abbrev pub repeated_pid : ℕ → Bool
  repeated_pid k = some (λ j. eqb (pid_at j) (pid_at k)) k

  -- 8: 'a layer index held by an earlier layer', 'also when an implied index meets a written one, at the later entry'
  abbrev pub repeated_index : ℕ → Bool
  repeated_index k = some (λ j. same_index (type_at j) (record_at j) (type_at k) (record_at k)) k

  -- whether the rule of W-201 gives an entry the implied mark
  abbrev pub given_at : ℕ → Bool
  given_at k = given (pair_of streams) (type_at k)

-- where a record's mark stands in an array with one mark for each value of a byte, and one more for streams that are no layer
abbrev pub slot_of : ℕ → Record → ℕ
slot_of stream_type r = cond (is_layer r) (index_of stream_type r) 256

-- the conditions that look at an entry's record, at whether the rule gives it the implied mark, and at whether its layer index was held before: 6 to 9
abbrev pub record_conditions : Bool → Bool → ℕ → Seen → List Bool
record_conditions is_given indexHeld stream_type seen =
    type_not_allowed is_given stream_type seen.«record»
    ∷ wrong_flags seen.«record»
    ∷ indexHeld
    ∷ wrong_embedded stream_type seen.«record» seen.embedded
    ∷ []

-- The conditions at an entry by number, from 0 on: no refusal has number 0, and number 1 is judged before any entry is read; then 2, an
-- entry or a descriptor that does not fit; 3, a PID that was seen before; 4, a wrong length; 5, a second record; and 6 to 9. The caller
-- says whether the rule gives the entry the implied mark, whether its PID was seen before, and whether its layer index was held before.
abbrev pub conditions : Bool → Bool → Bool → Stream → List Bool
conditions is_given pidSeen indexHeld s =
    false
    ∷ false
    ∷ not s.fits
    ∷ pidSeen
    ∷ s.seen.wrong_length
    ∷ s.seen.second_record
    ∷ record_conditions is_given indexHeld s.stream_type s.seen

-- whether a number applies at an entry
abbrev pub applies : List Stream → ℕ → ℕ → Bool
applies streams number k =
    get_or (conditions (given_at streams k) (repeated_pid streams k) (repeated_index streams k) (stream_at streams k)) number false

-- the lowest number at a stream, with marks for the PIDs and the layer indices before it
abbrev pub fault_at : Bool → List Bool → List Bool → Stream → ℕ
fault_at is_given pids indices s =
    first_true
    (conditions is_given (get_or pids s.pid false)
    (is_layer s.seen.«record» && get_or indices (slot_of s.stream_type s.seen.«record») false) s)

-- a whole entry of a loop that has the two views without a hierarchy descriptor or has not, with its mark
abbrev pub stream_in : Reading → Bool → List ℕ → Stream
stream_in reading pair entry = marked_stream pair (stream_of reading (whole (take 5 entry) (drop 5 entry)))

-- the refusals by number, each with its place; 0 is no refusal's number
abbrev pub refusals : List (ℕ → Refusal)
refusals =
    (λ place. LoopTooLong)
    ∷ (λ place. LoopTooLong)
    ∷ (λ place. DoesNotFit place)
    ∷ (λ place. RepeatedPid place)
    ∷ (λ place. WrongLength place)
    ∷ (λ place. SecondRecord place)
    ∷ (λ place. TypeNotAllowed place)
    ∷ (λ place. WrongFlags place)
    ∷ (λ place. RepeatedLayerIndex place)
    ∷ (λ place. WrongEmbeddedIndex place)
    ∷ []

abbrev pub refusal_of : ℕ → ℕ → Refusal
refusal_of number place = get_or refusals number (λ place. LoopTooLong) place

-- the lower of two faults, the earlier where their numbers are the same
abbrev pub lower_of : Fault → ℕ → ℕ → Fault
lower_of so_far number place = cond (ltb number so_far.number) (record { number = number; place = place }) so_far
