-- THE FUNCTION FOR C THAT WRITES AN OPERATION POINT DESCRIPTOR (document 02, W-205), as a call: what include/thoquenry.h says that it tells.
-- Assumes nothing.
use Rattle.std.specs.Prelude.{ℕ, List, [], ◌∷◌, Err, Ok}
use Rattle.point_weights.specs.Answer.{Written}
use Rattle.point_writer.specs.Meaning as Writing
use Rattle.thoquenry_points_written.proofs.thq_write_points.Kinds as write-points-kinds
use Rattle.thoquenry_points_written.proofs.thq_write_points.Reads as write-points
use Rattle.promised.specs.Calls.{Run}
use Rattle.demands.specs.Told.{ForC, Told, counts, refuses, Says}

pub record WritePointsGiven : Type 0 where
  pub profiles : List ℕ
  pub points : List ℕ
  pub references : List ℕ
  pub layers : List ℕ
  pub out : List ℕ

-- 'Counts the bytes written to `out`.'
abbrev pub descriptor_told : Written → List ℕ → Told (List ℕ)
descriptor_told (Ok count) left = counts count left
descriptor_told (Err refusal) left = refuses refusal

-- it tells the right answer of writing the descriptor of which the lists are the rows
pub record TellsDescriptor (given : WritePointsGiven) (answer : ℕ) (after : List ℕ) : Type 0 where
  pub written : Written
  pub left : List ℕ
  pub right : Writing.Answers given.profiles given.points given.references given.layers given.out written left
  pub said : Says (descriptor_told written left) given.out answer after

-- 'Refusals: 25 for given values and counts; then 41; then 25 for a length above 255; then 17.'
abbrev pub thq_write_points : ForC
thq_write_points =
    record {
      Ran = Run 5 write-points-kinds.ps write-points-kinds.r;
      Asks = λ run. write-points.Pre run.lifetimes run.handed;
      Ensures = λ run. write-points.Post run.lifetimes run.handed run.answer run.left;
      Given = WritePointsGiven;
      Buffers = List ℕ;
      given = λ run. record {
        profiles = run.handed.0.now;
        points = run.handed.1.0.now;
        references = run.handed.1.1.0.now;
        layers = run.handed.1.1.1.0.now;
        out = run.handed.1.1.1.1.0.now;
      };
      answer = λ run. run.answer;
      before = λ given. given.out;
      after = λ run. run.left.1.1.1.1.0.now;
      numbers = 17 ∷ 25 ∷ 41 ∷ [];
      Means = λ given answer after. TellsDescriptor given answer after;
    }
