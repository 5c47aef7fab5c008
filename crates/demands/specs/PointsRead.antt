-- THE FUNCTION FOR C THAT READS A PROGRAM'S OPERATION POINTS (document 02, W-205), as a call: what include/thoquenry.h says that it tells.
-- Assumes nothing.
use Rattle.std.specs.Prelude.{ℕ, ◌/◌, Bool, cond, ◌&&◌, List, [], ◌∷◌, ◌++◌, leb, length}
use Rattle.combinators.specs.Lists.{gather}
use Rattle.buffers.specs.Buffers.{over}
use Rattle.vocabulary.specs.declared.refusal.Refusal.TheVariants.{NoRoom}
use Rattle.operation_points.specs.Values.{counts_of, reference_bytes, layer_bytes, row_of}
use Rattle.points_meaning.specs.Telling.{PointTold, ProgramTold, Answer, refused, told}
use Rattle.points_meaning.specs.Meaning as Reading
use Rattle.thoquenry_points.specs.Reading.{Lists, lists}
use Rattle.thoquenry_points.proofs.thq_read_points.Kinds as read-points-kinds
use Rattle.thoquenry_points.proofs.thq_read_points.Reads as read-points
use Rattle.promised.specs.Calls.{Run}
use Rattle.promised.specs.Readers.{read_loop}
use Rattle.demands.specs.Told.{ForC, Told, counts, refuses, Says}

pub record ReadPointsGiven : Type 0 where
  pub program : List ℕ
  pub bytes : List ℕ
  pub lent : Lists

-- a point's 12 numbers: those of its fields, 'the number of members of its stream list', and 'whether that list is closed under embedding'
abbrev pub row_told : PointTold → List ℕ
row_told point = row_of (length point.streams) point.closed point.fields

-- the seven lists of what is told: `summary` has 'how many descriptors, profiles, points, references, layers, streams'
abbrev pub lists_told : ProgramTold → Lists
lists_told t =
    lists (gather counts_of t.descriptors) t.profiles (gather row_told t.points) (gather (λ point. reference_bytes point.fields) t.points)
    (gather (λ point. layer_bytes point.fields) t.points) (gather (λ point. point.streams) t.points)
    (length t.descriptors
    ∷ length t.profiles / 12
    ∷ length t.points
    ∷ length (gather (λ point. reference_bytes point.fields) t.points)
    ∷ length (gather (λ point. layer_bytes point.fields) t.points)
    ∷ length (gather (λ point. point.streams) t.points)
    ∷ [])

-- '17 where a list is shorter than that'
abbrev pub enough : Lists → Lists → Bool
enough new room =
    leb (length new.descriptors) (length room.descriptors)
    && (leb (length new.profiles) (length room.profiles)
    && (leb (length new.points) (length room.points)
    && (leb (length new.references) (length room.references)
    && (leb (length new.layers) (length room.layers)
    && (leb (length new.streams) (length room.streams)
    && leb (length new.summary) (length room.summary))))))

-- each list from the front, and beyond what is written what it held
abbrev pub over_all : Lists → Lists → Lists
over_all new room =
    lists (over new.descriptors room.descriptors) (over new.profiles room.profiles) (over new.points room.points)
    (over new.references room.references) (over new.layers room.layers) (over new.streams room.streams) (over new.summary room.summary)

-- 'Counts the points.'
abbrev pub points_told : Answer → Lists → Told Lists
points_told (refused refusal) room = refuses refusal
points_told (told t) room = cond (enough (lists_told t) room) (counts (length t.points) (over_all (lists_told t) room)) (refuses NoRoom)

-- it tells the right answer of reading a program's points
pub record TellsPoints (given : ReadPointsGiven) (answer : ℕ) (after : Lists) : Type 0 where
  pub found : Answer
  pub right : Reading.Answers given.program given.bytes found
  pub said : Says (points_told found given.lent) given.lent answer after

-- 'Refusals: 1 to 9, at an entry; then 40, 41, 42; then 17.'
abbrev pub thq_read_points : ForC
thq_read_points =
    record {
      Ran = Run 9 read-points-kinds.ps read-points-kinds.r;
      Asks = λ run. read-points.Pre run.lifetimes run.handed;
      Ensures = λ run. read-points.Post run.lifetimes run.handed run.answer run.left;
      Given = ReadPointsGiven;
      Buffers = Lists;
      given = λ run. record {
        program = run.handed.0.now;
        bytes = run.handed.1.0.now;
        lent = lists run.handed.1.1.0.now run.handed.1.1.1.0.now run.handed.1.1.1.1.0.now run.handed.1.1.1.1.1.0.now
            run.handed.1.1.1.1.1.1.0.now run.handed.1.1.1.1.1.1.1.0.now run.handed.1.1.1.1.1.1.1.1.0.now;
      };
      answer = λ run. run.answer;
      before = λ given. given.lent;
      after = λ run. lists run.left.1.1.0.now run.left.1.1.1.0.now run.left.1.1.1.1.0.now run.left.1.1.1.1.1.0.now
          run.left.1.1.1.1.1.1.0.now run.left.1.1.1.1.1.1.1.0.now run.left.1.1.1.1.1.1.1.1.0.now;
      numbers = read_loop.numbers ++ 17 ∷ 40 ∷ 41 ∷ 42 ∷ [];
      Means = λ given answer after. TellsPoints given answer after;
    }
