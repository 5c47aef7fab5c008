-- WHERE IT STANDS: of points that are told, the answer of `program_points` has the places in the program's loop, and how much there is.
-- Assumes nothing.
use Rattle.std.specs.Prelude.{ℕ, List, map, ◌≡◌, length, take}
use Rattle.combinators.specs.Lists.{gather}
use Rattle.operation_points.specs.Values.{reference_bytes, layer_bytes}
use Rattle.program_points.specs.declared.PointsRead.{PointsRead}
use Rattle.program_points.specs.Places.{value_at, profiles_at}
use Rattle.points_meaning.specs.Telling.{ProgramTold}

pub record Placed (program : List ℕ) (read : PointsRead) (t : ProgramTold) : Type 0 where
  -- at the place of each point stands what is told of it, and at the places of the payloads stand the profile structures
  pub fields : map (value_at program) (take read.found.count read.found.points) ≡ map (λ point. point.fields) t.points
  pub profiles : gather (profiles_at program) (take read.found.descriptors read.found.payloads) ≡ t.profiles
  -- how many points, bytes of profile structures, references, layer flags and members of stream lists
  pub many : read.found.count ≡ length t.points
  pub profile_bytes : read.profile_bytes ≡ length t.profiles
  pub references : read.tally.references ≡ length (gather (λ point. reference_bytes point.fields) t.points)
  pub layer_flags : read.tally.flags ≡ length (gather (λ point. layer_bytes point.fields) t.points)
  pub streams : read.tally.streams ≡ length (gather (λ point. point.streams) t.points)
