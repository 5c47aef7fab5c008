-- WHAT COMES BEFORE JOINING. 'The loop's numbers, 11 and 12; then the lowest of 30 to 33 ..; then the lowest of 20 to 24 ..; then 13 ..; then 14 to 18 and 17 as joining has
-- them': an answer that joining gives, units or one of 14 to 18, is given exactly where the loop is accepted, the packets give rows that there is room for, and joining
-- answers it of these rows. So demand 2, which speaks of joining, holds of recordings.
-- Assumes nothing.
use Rattle.std.specs.Prelude.{ℕ, ◌<◌, List, map, ◌↔◌, Err, Ok}
use Rattle.vocabulary.specs.declared.stream_types.Reading.TheVariants.{Edition2015}
use Rattle.vocabulary.specs.Refusals.{number_of}
use Rattle.loop_entries.specs.declared.Stream.{Stream}
use Rattle.loop_entries.specs.Entries.{entry_of}
use Rattle.es_loop.specs.Reading.{accepted}
use Rattle.es_loop.specs.Meaning as Loop
use Rattle.closure.specs.declared.Layers.{Layers}
use Rattle.loop_layers.specs.Meaning.{LayersOf}
use Rattle.unit_lists.specs.Sequence.{Lists}
use Rattle.join_answers.specs.Answer.{Joined}
use Rattle.join_answers.specs.Meaning as Joining
use Rattle.recording_imports.specs.Answer.{Imported}
use Rattle.recording_imports.specs.declared.Unread.TheVariants.{Refused, NotRead}
use Rattle.recording_imports.specs.Imports.{imported_of}
use Rattle.recording_demands.specs.Agreement.{filled, GivesRows, Imports}

-- nothing that comes before joining is refused: the loop is accepted, with these layers, and the packets give rows
pub record ToJoining (places : ℕ) (bytes : List ℕ) (target : ℕ) (packets : List ℕ) : Type 0 where
  pub streams : List Stream
  pub layers : Layers
  pub loop_accepted : Loop.Answers Edition2015 bytes (accepted streams)
  pub layers_of_loop : LayersOf (map entry_of streams) layers
  pub gives_rows : GivesRows places bytes target packets

-- an answer that joining gives, and no step before it
abbrev pub OfJoining : Imported → Type 0
OfJoining (Ok joined) = Unit {0}
OfJoining (Err (Refused refusal)) = (13 < number_of refusal) × (number_of refusal < 19)
OfJoining (Err (NotRead refusal packet)) = ⊥

-- THE STATEMENT, of any bytes of a loop and of a recording
pub record Reached (places : ℕ) (bytes : List ℕ) (target : ℕ) (packets : List ℕ) : Type 0 where
  pub only_then : (before : Lists) (answer : Imported) (after : Lists) → Imports places bytes target packets before answer after → OfJoining answer
      → ToJoining places bytes target packets
  pub as_joining : (r : ToJoining places bytes target packets) (before : Lists) (answer : Joined) (after : Lists)
      → Joining.Answers places r.layers target (filled places bytes target packets) before answer after
      ↔ Imports places bytes target packets before (imported_of answer) after
