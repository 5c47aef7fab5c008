-- Table 2-111bis of source 000, HEVC_operation_point_descriptor(), behind the extension tag: its lines in order, with their names and numbers of bits,
-- its loops and its conditions.
-- Assumes nothing.
use Rattle.std.specs.Prelude.{Bool, List, [], ◌∷◌, eqb, ltb}
use Rattle.syntax.specs.Table.{value, reserved, Table}
use Rattle.syntax.specs.Named.{Given, given_to}
use Rattle.operation_points.specs.Parts.{Part, lines, repeated, when}

abbrev pub profiles_count : Table
profiles_count = reserved 2 ∷ value 6 "num_ptl" ∷ []

abbrev pub profile : Table
profile = value 96 "profile_tier_level_info" ∷ []

abbrev pub points_count : Table
points_count = value 8 "operation_points_count" ∷ []

-- What stands before the points. The table prints `i++, i++` in the loop of the profiles; num_ptl is the number of structures (2.6.101), so each is
-- there.
abbrev pub head_syntax : List Part
head_syntax = lines profiles_count ∷ repeated "num_ptl" profile ∷ lines points_count ∷ []

abbrev pub point_head : Table
point_head = value 8 "target_ols" ∷ value 8 "ES_count" ∷ []

abbrev pub reference : Table
reference = reserved 1 ∷ value 1 "prepend_dependencies" ∷ value 6 "ES_reference" ∷ []

abbrev pub flags_count : Table
flags_count = reserved 2 ∷ value 6 "numEsInOp" ∷ []

abbrev pub flags : Table
flags = value 1 "necessary_layer_flag" ∷ value 1 "output_layer_flag" ∷ value 6 "ptl_ref_idx" ∷ []

abbrev pub rates : Table
rates =
    reserved 1
    ∷ value 1 "avg_bit_rate_info_flag"
    ∷ value 1 "max_bit_rate_info_flag"
    ∷ value 2 "constant_frame_rate_info_idc"
    ∷ value 3 "applicable_temporal_id"
    ∷ []

abbrev pub frame_rate : Table
frame_rate = reserved 4 ∷ value 12 "frame_rate_indicator" ∷ []

abbrev pub average_rate : Table
average_rate = value 24 "avg_bit_rate" ∷ []

abbrev pub maximum_rate : Table
maximum_rate = value 24 "max_bit_rate" ∷ []

-- if (constant_frame_rate_info_idc[i] > 0)
abbrev pub has_frame_rate : Given → Bool
has_frame_rate given = ltb 0 (given_to "constant_frame_rate_info_idc" given)

-- if (avg_bit_rate_info_flag[i] == '1'), if (max_bit_rate_info_flag[i] == '1')
abbrev pub has_average_rate : Given → Bool
has_average_rate given = eqb (given_to "avg_bit_rate_info_flag" given) 1

abbrev pub has_maximum_rate : Given → Bool
has_maximum_rate given = eqb (given_to "max_bit_rate_info_flag" given) 1

-- One point. `NumESinOP` of the table is its line numEsInOp.
abbrev pub point_syntax : List Part
point_syntax =
    lines point_head
    ∷ repeated "ES_count" reference
    ∷ lines flags_count
    ∷ repeated "numEsInOp" flags
    ∷ lines rates
    ∷ when has_frame_rate frame_rate
    ∷ when has_average_rate average_rate
    ∷ when has_maximum_rate maximum_rate
    ∷ []
