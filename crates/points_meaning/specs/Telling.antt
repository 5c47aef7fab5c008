-- What reading a program's points tells a caller: the refusal, or the descriptors with their profile structures, and every point with its fields, its stream
-- list and whether that is closed. And what the answer of `program_points` tells so.
-- Assumes nothing.
use Rattle.std.specs.Prelude.{ℕ, Bool, List, map, Err, Ok}
use Rattle.vocabulary.specs.declared.refusal.Refusal.{Refusal}
use Rattle.closure.specs.declared.Layers.{Layers}
use Rattle.es_loop.specs.Answer.{Outcome}
use Rattle.operation_points.specs.Values.{PointValue, DescriptorValue}
use Rattle.program_points.specs.declared.PointsRead.{PointsRead}
use Rattle.program_points.specs.Told.{values_in, points_in, profiles_in, streams_of, closed_of}

-- a point: its fields, its stream list, and whether that is closed under embedding
pub record PointTold : Type 0 where
  pub fields : PointValue
  pub streams : List ℕ
  pub closed : Bool

pub record ProgramTold : Type 0 where
  pub descriptors : List DescriptorValue
  pub profiles : List ℕ
  pub points : List PointTold

-- 'A refusal returns number and place and no other content.'
pub data Answer : Type 0 where
  refused : Refusal → Answer
  told : ProgramTold → Answer

-- ---- what is computed

abbrev pub point_told : Layers → PointValue → PointTold
point_told layers value = record { fields = value; streams = streams_of layers value; closed = closed_of layers value }

abbrev pub program_told : Layers → List ℕ → ProgramTold
program_told layers program =
    record { descriptors = values_in program; profiles = profiles_in program; points = map (point_told layers) (points_in program) }

abbrev pub by_outcome : Outcome → Layers → List ℕ → Answer
by_outcome (Err refusal) layers program = refused refusal
by_outcome (Ok tt) layers program = told (program_told layers program)

-- the answer of `program_points`, told
abbrev pub telling : List ℕ → PointsRead → Answer
telling program read = by_outcome read.outcome read.layers program
