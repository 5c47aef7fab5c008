-- WHAT THE LISTS FOR C RECEIVE of points that are told, by the layout of include/thoquenry.h: one definition for each list, over the points in order.
-- Assumes nothing.
use Rattle.std.specs.Prelude.{ℕ, ◌/◌, List, [], ◌∷◌, length}
use Rattle.combinators.specs.Lists.{gather}
use Rattle.operation_points.specs.Values.{counts_of, row_of, reference_bytes, layer_bytes}
use Rattle.points_meaning.specs.Telling.{PointTold, ProgramTold}

-- 2 numbers a descriptor: num_ptl, operation_points_count
abbrev pub descriptors_list : ProgramTold → List ℕ
descriptors_list t = gather counts_of t.descriptors

-- 12 numbers a point: its fields by the table's names, how many members its stream list has, and whether that is closed
abbrev pub point_row : PointTold → List ℕ
point_row point = row_of (length point.streams) point.closed point.fields

abbrev pub points_list : ProgramTold → List ℕ
points_list t = gather point_row t.points

-- a byte each: the references, the layers, the members of the stream lists, of all points in order
abbrev pub references_list : ProgramTold → List ℕ
references_list t = gather (λ point. reference_bytes point.fields) t.points

abbrev pub layers_list : ProgramTold → List ℕ
layers_list t = gather (λ point. layer_bytes point.fields) t.points

abbrev pub streams_list : ProgramTold → List ℕ
streams_list t = gather (λ point. point.streams) t.points

-- how many descriptors, profile structures, points, references, layers and members of stream lists
abbrev pub summary_list : ProgramTold → List ℕ
summary_list t =
    length t.descriptors
    ∷ length t.profiles / 12
    ∷ length t.points
    ∷ length (references_list t)
    ∷ length (layers_list t)
    ∷ length (streams_list t)
    ∷ []
