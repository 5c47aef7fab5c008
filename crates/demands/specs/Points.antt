-- READING A PROGRAM'S OPERATION POINTS (document 02, W-205), as a call, and its promise. `program_points::read_points` answers its outcome, the layers, and places in
-- the program's loop: what is told of these is the refusal, or every point with its fields and its list (`telling` of points_meaning). That the places are those
-- of what is told says `operation_points`, `placed`.
-- Assumes nothing.
use Rattle.std.specs.Prelude.{ℕ, true, List, [], ◌∷◌, ◌++◌, ◌≡◌, refl}
use Rattle.std.proofs.Math.Option.{Option, none, some}
use Rattle.std.proofs.Common.{ap}
use Rattle.vocabulary.specs.Refusals.{number_of}
use Rattle.program_points.specs.declared.PointsRead.{PointsRead}
use Rattle.program_points.specs.Told.{points_read}
use Rattle.program_points.proofs.read_points.Kinds as read-points-kinds
use Rattle.program_points.proofs.read_points.Reads as read-points
use Rattle.points_meaning.specs.Telling.{Answer, refused, told, telling}
use Rattle.points_meaning.specs.Meaning.{answers_40, answers_41, answers_42, tells, Answers, loop_refused, loop_accepted}
use Rattle.points_meaning.proofs.Meant.{points_meant, points_only}
use Rattle.promised.specs.Calls.{Run, Call, is_listed, Promised}
use Rattle.promised.specs.Shown.{promised, listed_first}
use Rattle.promised.specs.Readers.{read_loop, read_listed}

pub record PointsGiven : Type 0 where
  pub program : List ℕ
  pub bytes : List ℕ

abbrev pub points_number : Answer → Option ℕ
points_number (refused refusal) = some (number_of refusal)
points_number (told points) = none

abbrev pub read_program_points : Call
read_program_points =
    record {
      Ran = Run 2 read-points-kinds.ps read-points-kinds.r;
      Asks = λ run. read-points.Pre run.lifetimes run.handed;
      Ensures = λ run. read-points.Post run.lifetimes run.handed run.answer run.left;
      Given = PointsGiven;
      Answer = Answer;
      Buffers = Unit {0};
      given = λ run. record { program = run.handed.0.now; bytes = run.handed.1.0.now };
      answer = λ run. telling run.handed.0.now run.answer;
      before = λ given. tt;
      after = λ run. tt;
      number_in = points_number;
      numbers = read_loop.numbers ++ 40 ∷ 41 ∷ 42 ∷ [];
      Means = λ given answer nothing. Answers given.program given.bytes answer;
    }

-- a refusal is the loop's own, or one of the three
points_listed : {program bytes : List ℕ} {answer : Answer} → Answers program bytes answer → is_listed read_program_points.numbers (points_number answer) ≡ true
points_listed (loop_refused {refusal} l) = listed_first read_loop.numbers (40 ∷ 41 ∷ 42 ∷ []) (some (number_of refusal)) (read_listed l)
points_listed (loop_accepted l c (answers_40 m)) = refl
points_listed (loop_accepted l c (answers_41 f r)) = refl
points_listed (loop_accepted l c (answers_42 f g v x)) = refl
points_listed (loop_accepted l c (tells f g v x m)) = refl

pub program_points_read : Promised read_program_points
program_points_read =
    promised {answerTo = λ given. telling given.program (points_read given.program given.bytes)} {left_by = λ given. tt}
    (record {
      asks_nothing = λ run. tt;
      ensured = λ run e. (ap (λ (r : PointsRead). telling run.handed.0.now r) e, refl);
      right = λ given. points_meant given.program given.bytes;
      nothing_else = λ given means. (points_only given.program given.bytes means, refl);
      listed = λ given. points_listed (points_meant given.program given.bytes);
      untouched = λ given number e. refl;
    })
