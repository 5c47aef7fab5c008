-- WHAT IS SHOWN OF OPERATION POINTS (document 02, W-205), beside what reading them promises (Demand1.antt): all of it of right answers, by their meaning.
-- Assumes nothing.
use Rattle.std.specs.Prelude.{ℕ, true, List, ◌≡◌}
use Rattle.combinators.specs.Lists.{Nth}
use Rattle.combinators.specs.Members.{member}
use Rattle.syntax.specs.Table.{AreBytes}
use Rattle.closure.specs.declared.Layers.{Layers}
use Rattle.program_points.specs.Told.{points_read}
use Rattle.points_meaning.specs.Telling.{PointTold, ProgramTold, Answer, told, telling}
use Rattle.points_meaning.specs.Meaning.{InLayers, Answers}
use Rattle.points_meaning.specs.Placed.{Placed}
use Rattle.points_meaning.specs.Closed.{ClosedGives}
use Rattle.points_meaning.proofs.Meant.{points_meant, one_answer}
use Rattle.points_meaning.proofs.Placed.{placed}
use Rattle.points_meaning.proofs.Closed.{closed_point}
use Rattle.points_agreement.specs.Untouched.{Untouched}
use Rattle.points_agreement.specs.Members.{CompleteTarget}
use Rattle.points_agreement.proofs.Untouched.{untouched}
use Rattle.points_agreement.proofs.Members.{member_complete}

pub record OperationPoints : Type 0 where
  -- 'The whole answer promised and meant, both ways': what is computed is right, and there is one right answer
  pub meant : (program bytes : List ℕ) → Answers program bytes (telling program (points_read program bytes))
  pub one : (program bytes : List ℕ) {a b : Answer} → Answers program bytes a → Answers program bytes b → a ≡ b
  -- the places that are answered are those of what is told, and the counts are of it
  pub placed : (program : List ℕ) → AreBytes program → {bytes : List ℕ} {t : ProgramTold} → Answers program bytes (told t)
      → Placed program (points_read program bytes) t
  -- 'A point whose list is closed under embedding gives, ordered by index, exactly the union of the closures of its members, each complete'
  pub closed_lists : {program bytes : List ℕ} {layers : Layers} {t : ProgramTold} → InLayers bytes layers → Answers program bytes (told t)
      → {k : ℕ} {point : PointTold} → Nth t.points k point → ClosedGives layers point
  -- so that each member is a target of the loop whose closure is complete, and in the list
  pub complete_members : {program bytes : List ℕ} {layers : Layers} {t : ProgramTold} → InLayers bytes layers → Answers program bytes (told t)
      → {k : ℕ} {point : PointTold} → Nth t.points k point → point.closed ≡ true → (i : ℕ) → member i point.streams ≡ true → CompleteTarget bytes point i
  -- 'demand 3 is untouched: nothing of the program's loop enters loops, closures or joining'
  pub demand_3_untouched : (program bytes : List ℕ) → Untouched program bytes

pub operation_points : OperationPoints
operation_points =
    record { meant = points_meant; one = one_answer; placed = placed; closed_lists = closed_point; complete_members = member_complete; demand_3_untouched = untouched }
