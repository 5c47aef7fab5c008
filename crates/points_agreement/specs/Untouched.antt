-- 'DEMAND 3 IS UNTOUCHED: nothing of the program's loop enters loops, closures or joining.'
--
-- What carries it: reading a loop, the closure of a target and the import are stated, computed and called with the elementary-stream loop alone. Of those calls that
-- they answer the same beside every program's loop would say nothing, since they are given none. What can be said is of the one reading that is given both loops:
-- it answers the elementary-stream loop's own refusal first and gives none of these numbers for anything else; the layers that it gives back are the loop's own,
-- whatever the program's loop holds and whatever it is refused with; so that a closure and a join in them are those of the loop alone, and demand 3 speaks of these
-- very layers, which are those in which the points' lists are built.
-- Assumes nothing.
use Rattle.std.specs.Prelude.{ℕ, ◌<◌, List, ◌↔◌, ◌≡◌}
use Rattle.vocabulary.specs.declared.refusal.Refusal.{Refusal}
use Rattle.vocabulary.specs.declared.stream_types.Reading.TheVariants.{Edition2015}
use Rattle.vocabulary.specs.Refusals.{number_of}
use Rattle.closure.specs.declared.Layers.{Layers}
use Rattle.closure.specs.Answer.{Closure}
use Rattle.closure.specs.Meaning as Target
use Rattle.loop_entries.specs.declared.Entry.{Entry}
use Rattle.es_loop.specs.Reading.{refused_with}
use Rattle.es_loop.specs.Meaning as Loop
use Rattle.loop_layers.specs.Closures.{loop_layers}
use Rattle.loop_layers.specs.Meaning as LoopClosure
use Rattle.rows.specs.Table.{Table, most_rows}
use Rattle.unit_lists.specs.Sequence.{Lists}
use Rattle.join_answers.specs.Answer.{Joined}
use Rattle.join_answers.specs.Meaning as Joining
use Rattle.importing.specs.Meaning as Import
use Rattle.agreement.specs.Meaning.{Accepts, Agrees}
use Rattle.program_points.specs.Told.{points_read}
use Rattle.points_meaning.specs.Telling.{ProgramTold, refused, told}
use Rattle.points_meaning.specs.Meaning.{InOrder, Listed, points_of, Answers}

pub record Untouched (program bytes : List ℕ) : Type 0 where
  -- the elementary-stream loop's refusal is the answer, whatever the program's loop holds,
  pub loop_first : {refusal : Refusal} → Loop.Answers Edition2015 bytes (refused_with refusal) → Answers program bytes (refused refusal)
  -- and a number below 40 is that loop's own
  pub own_numbers : {refusal : Refusal} → Answers program bytes (refused refusal) → number_of refusal < 40 → Loop.Answers Edition2015 bytes (refused_with refusal)
  -- the layers that are given back are the loop's
  pub loop_layers : (points_read program bytes).layers ≡ (loop_layers Edition2015 bytes).layers
  -- a closure in them is the loop's answer to the target,
  pub closures : {entries : List Entry} {layers : Layers} → Accepts Edition2015 bytes entries layers → (target : ℕ) (answer : Closure)
      → Target.Answers (points_read program bytes).layers target answer ↔ LoopClosure.Answers Edition2015 bytes target answer
  -- a join in them is the import's,
  pub joins : {entries : List Entry} {layers : Layers} → Accepts Edition2015 bytes entries layers → (target : ℕ) (t : Table) (before : Lists) (answer : Joined) (after : Lists)
      → Joining.Answers most_rows (points_read program bytes).layers target t before answer after ↔ Import.Answers Edition2015 bytes target t before answer after
  -- and demand 3 holds of them
  pub demand_3 : {entries : List Entry} {layers : Layers} → Accepts Edition2015 bytes entries layers → (target : ℕ)
      → Agrees bytes entries (points_read program bytes).layers target
  -- the points' lists are built in the layers of which demand 3 speaks
  pub lists : {entries : List Entry} {layers : Layers} {t : ProgramTold} → Accepts Edition2015 bytes entries layers → Answers program bytes (told t)
      → InOrder (Listed layers) (points_of t.descriptors) t.points
