-- The lists of a program's points for C, by its values: one definition for each list, over the points in order.
-- Assumes nothing.
use Rattle.std.specs.Prelude.{ℕ, ◌/◌, List, [], ◌∷◌, length}
use Rattle.combinators.specs.Lists.{gather}
use Rattle.closure.specs.declared.Layers.{Layers}
use Rattle.operation_points.specs.Values.{counts_of, reference_bytes, layer_bytes}
use Rattle.program_points.specs.Told.{values_in, points_in, profiles_in, streams_of, row_in}

abbrev pub descriptor_numbers : List ℕ → List ℕ
descriptor_numbers program = gather counts_of (values_in program)

abbrev pub point_numbers : Layers → List ℕ → List ℕ
point_numbers layers program = gather (row_in layers) (points_in program)

abbrev pub reference_list : List ℕ → List ℕ
reference_list program = gather reference_bytes (points_in program)

abbrev pub layer_list : List ℕ → List ℕ
layer_list program = gather layer_bytes (points_in program)

abbrev pub stream_list : Layers → List ℕ → List ℕ
stream_list layers program = gather (streams_of layers) (points_in program)

-- how many descriptors, profile structures, points, references, layer flags and members of stream lists
abbrev pub summary_of : Layers → List ℕ → List ℕ
summary_of layers program =
    length (values_in program)
    ∷ length (profiles_in program) / 12
    ∷ length (points_in program)
    ∷ length (reference_list program)
    ∷ length (layer_list program)
    ∷ length (stream_list layers program)
    ∷ []
