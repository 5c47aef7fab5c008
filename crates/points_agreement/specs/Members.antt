-- WHAT AN EDITOR CAN CALL for the members of a point's list that is closed: each is a target in the elementary-stream loop whose closure is complete, and that
-- closure stays in the list.
-- Assumes nothing.
use Rattle.std.specs.Prelude.{ℕ, true, List, ◌≡◌, Ok}
use Rattle.combinators.specs.Members.{member}
use Rattle.sets.specs.Sets.{has}
use Rattle.vocabulary.specs.declared.stream_types.Reading.TheVariants.{Edition2015}
use Rattle.loop_layers.specs.Meaning as LoopClosure
use Rattle.points_meaning.specs.Telling.{PointTold}

pub record CompleteTarget (bytes : List ℕ) (point : PointTold) (i : ℕ) : Type 0 where
  pub set : ℕ
  pub answer : LoopClosure.Answers Edition2015 bytes i (Ok set)
  pub inside : (j : ℕ) → has set j ≡ true → member j point.streams ≡ true
