-- The same conditions over the outline of a stream, as the walk that judges has it: of a stream's own outline they are those of the stream.
-- Assumes nothing.
use Rattle.std.specs.Prelude.{ℕ, Bool, false, not, ◌&&◌, List, [], ◌∷◌, get_or}
use Rattle.combinators.specs.Lists.{first_true}
use Rattle.records.specs.Records.{is_layer}
use Rattle.judging.specs.Judging.{type_not_allowed, wrong_flags}
use Rattle.loop_outlines.specs.declared.Outline.{Outline}
use Rattle.loop_faults.specs.Conditions.{slot_of}

-- 6 to 9
abbrev pub record_tests : Bool → Bool → Outline → List Bool
record_tests is_given indexHeld o =
    type_not_allowed is_given o.stream_type o.«record»
    ∷ wrong_flags o.«record»
    ∷ indexHeld
    ∷ o.wrong_embedded
    ∷ []

-- 2 to 9, by number
abbrev pub tests : Bool → Bool → Bool → Outline → List Bool
tests is_given pidSeen indexHeld o =
    false
    ∷ false
    ∷ not o.fits
    ∷ pidSeen
    ∷ o.wrong_length
    ∷ o.second_record
    ∷ record_tests is_given indexHeld o

-- the lowest number, with marks for the PIDs and the layer indices before it
abbrev pub fault_on : Bool → List Bool → List Bool → Outline → ℕ
fault_on is_given pids indices o =
    first_true
    (tests is_given (get_or pids o.pid false)
    (is_layer o.«record» && get_or indices (slot_of o.stream_type o.«record») false) o)

-- the same of a stream without a record, to which 3 and 6 alone can apply
abbrev pub fault_without : Bool → Bool → ℕ
fault_without is_given pidSeen =
    first_true
    (false
    ∷ false
    ∷ false
    ∷ pidSeen
    ∷ false
    ∷ false
    ∷ is_given
    ∷ false
    ∷ false
    ∷ false
    ∷ [])
