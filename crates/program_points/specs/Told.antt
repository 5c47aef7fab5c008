-- WHAT IS TOLD of a program's operation points: the values of its descriptors in order, each point's stream list in the layers of the elementary-stream loop,
-- and how much of it there is; or the refusal.
-- Assumes nothing.
use Rattle.std.specs.Prelude.{ℕ, ◌+◌, ◌≤◌, Bool, false, cond, ◌||◌, List, map, ◌≡◌, length, take, Err, Ok}
use Rattle.combinators.specs.Lists.{any, gather}
use Rattle.vocabulary.specs.declared.refusal.Refusal.{Refusal}
use Rattle.vocabulary.specs.declared.refusal.Refusal.TheVariants.{PointsDoNotFit, ReservedEsCount, UnknownReference}
use Rattle.vocabulary.specs.declared.stream_types.Reading.TheVariants.{Edition2015}
use Rattle.closure.specs.declared.Layers.{Layers}
use Rattle.es_loop.specs.Answer.{Outcome}
use Rattle.loop_layers.specs.declared.layer_sets.LayersRead.{LayersRead}
use Rattle.loop_layers.specs.Closures.{loop_layers}
use Rattle.stream_lists.specs.declared.ListBuilt.{ListBuilt}
use Rattle.stream_lists.specs.Lists.{list_built, is_closed}
use Rattle.operation_points.specs.Answer.{Filling}
use Rattle.operation_points.specs.declared.PointFault.{PointFault}
use Rattle.operation_points.specs.declared.PointFault.TheVariants.{DoesNotFit, ReservedCount}
use Rattle.operation_points.specs.Values.{PointValue, DescriptorValue, value_of, reference_bytes, layer_bytes, row_of}
use Rattle.point_descriptors.specs.declared.Found.{Found}
use Rattle.point_descriptors.specs.Descriptors.{payloads_in, program_filling, found_in}
use Rattle.program_points.specs.declared.Tally.{Tally}
use Rattle.program_points.specs.declared.PointsRead.{PointsRead}

-- ---- the descriptors, and all their points in order

abbrev pub values_in : List ℕ → List DescriptorValue
values_in program = map value_of (payloads_in program)

abbrev pub points_in : List ℕ → List PointValue
points_in program = gather (λ value. value.points) (values_in program)

-- 'profile arrays gathered over the descriptors in order'
abbrev pub profiles_in : List ℕ → List ℕ
profiles_in program = gather (λ value. value.profiles) (values_in program)

-- ---- a point's stream list

abbrev pub list_of : Layers → PointValue → ListBuilt
list_of layers value = list_built layers (reference_bytes value)

abbrev pub is_absent : Layers → PointValue → Bool
is_absent layers value = (list_of layers value).absent

abbrev pub streams_of : Layers → PointValue → List ℕ
streams_of layers value = take (list_of layers value).list.count (list_of layers value).list.members

abbrev pub closed_of : Layers → PointValue → Bool
closed_of layers value = is_closed layers (list_of layers value).list.present

-- its row for C
abbrev pub row_in : Layers → PointValue → List ℕ
row_in layers value = row_of (list_of layers value).list.count (closed_of layers value) value

-- ---- how much there is, and whether 42 applies to any of them

abbrev pub tally_of : Layers → List PointValue → Tally
tally_of layers values =
    record {
      absent = any (is_absent layers) values;
      references = length (gather reference_bytes values);
      flags = length (gather layer_bytes values);
      streams = length (gather (streams_of layers) values);
    }

-- one point more
abbrev pub tally_with : Layers → Tally → PointValue → Tally
tally_with layers tally value =
    record {
      absent = tally.absent || is_absent layers value;
      references = tally.references + length (reference_bytes value);
      flags = tally.flags + length (layer_bytes value);
      streams = tally.streams + length (streams_of layers value);
    }

-- counts that are far from too large, and what one point adds at most
pub record Small (tally : Tally) : Type 0 where
  pub references : tally.references ≤ 1000000
  pub flags : tally.flags ≤ 1000000
  pub streams : tally.streams ≤ 1000000

pub record Grows (before after : Tally) : Type 0 where
  pub references : after.references ≤ before.references + 255
  pub flags : after.flags ≤ before.flags + 255
  pub streams : after.streams ≤ before.streams + 255

-- what was found of a loop in which neither 40 nor 41 applies
pub record Filled (program : List ℕ) (found : Found) : Type 0 where
  pub is_found : found ≡ found_in program
  pub exact : found.filling ≡ Ok tt

-- ---- the answer: the elementary-stream loop's own refusal, then 40, 41, 42

abbrev pub no_tally : Tally
no_tally = record { absent = false; references = 0; flags = 0; streams = 0 }

abbrev pub refused_points : Refusal → Layers → Found → PointsRead
refused_points refusal layers found =
    record { outcome = Err refusal; layers = layers; found = found; profile_bytes = 0; tally = no_tally }

abbrev pub by_tally : Layers → List ℕ → Tally → PointsRead
by_tally layers program tally =
    cond tally.absent (refused_points UnknownReference layers (found_in program))
    (record { outcome = Ok tt; layers = layers; found = found_in program; profile_bytes = length (profiles_in program); tally = tally })

abbrev pub refusal_of : PointFault → Refusal
refusal_of DoesNotFit = PointsDoNotFit
refusal_of ReservedCount = ReservedEsCount

abbrev pub by_filling : Filling → Layers → List ℕ → PointsRead
by_filling (Err fault) layers program = refused_points (refusal_of fault) layers (found_in program)
by_filling (Ok _) layers program = by_tally layers program (tally_of layers (points_in program))

abbrev pub by_outcome : Outcome → Layers → List ℕ → PointsRead
by_outcome (Err refusal) layers program = refused_points refusal layers (found_in program)
by_outcome (Ok _) layers program = by_filling (program_filling program) layers program

abbrev pub read_with : LayersRead → List ℕ → PointsRead
read_with read program = by_outcome read.outcome read.layers program

abbrev pub points_read : List ℕ → List ℕ → PointsRead
points_read program bytes = read_with (loop_layers Edition2015 bytes) program
