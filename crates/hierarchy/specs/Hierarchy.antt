-- The hierarchy descriptor, tag 4: its syntax table, and its record out of the table's values and back, each value by the name of its line.
-- Assumes nothing.
use Rattle.std.specs.Prelude.{ℕ, ◌/◌, Bool, true, List, [], ◌∷◌, eqb}
use Rattle.syntax.specs.Table.{Table, value, reserved}
use Rattle.syntax.specs.Named.{Given, given_to, read_by, values_by}
use Rattle.syntax.specs.Filled.{Filled, filled, bit_of}
use Rattle.vocabulary.specs.declared.stream_types.Reading.{Reading}
use Rattle.vocabulary.specs.declared.stream_types.Reading.TheVariants.{Edition2009, Edition2015}
use Rattle.hierarchy.specs.declared.HierarchyRecord.{HierarchyRecord}
use Rattle.descriptor_heads.specs.Head.{head_table}

-- Table 2-49, hierarchy descriptor, after its head: source 000, clause 2.6.6, for the 2015 reading. In 2009 (source 003) the first
-- bit is reserved.
abbrev pub after_no_view : Table
after_no_view =
    value 1 "no_temporal_scalability_flag"
    ∷ value 1 "no_spatial_scalability_flag"
    ∷ value 1 "no_quality_scalability_flag"
    ∷ value 4 "hierarchy_type"
    ∷ reserved 2
    ∷ value 6 "hierarchy_layer_index"
    ∷ value 1 "tref_present_flag"
    ∷ reserved 1
    ∷ value 6 "hierarchy_embedded_layer_index"
    ∷ reserved 2
    ∷ value 6 "hierarchy_channel"
    ∷ []

abbrev pub hierarchy_descriptor : Reading → Table
hierarchy_descriptor Edition2009 = reserved 1 ∷ after_no_view
hierarchy_descriptor Edition2015 = value 1 "no_view_scalability_flag" ∷ after_no_view

-- READING. What a payload gives to the names of the table; the 2009 reading has no no_view_scalability_flag and answers 1.
abbrev pub hierarchy_read : Reading → List ℕ → Given
hierarchy_read Edition2009 payload = ("no_view_scalability_flag", 1) ∷ read_by (hierarchy_descriptor Edition2009) payload
hierarchy_read Edition2015 payload = read_by (hierarchy_descriptor Edition2015) payload

abbrev pub hierarchy_from : Given → HierarchyRecord
hierarchy_from given =
    record {
      no_view = eqb (given_to "no_view_scalability_flag" given) 1;
      no_temporal = eqb (given_to "no_temporal_scalability_flag" given) 1;
      no_spatial = eqb (given_to "no_spatial_scalability_flag" given) 1;
      no_quality = eqb (given_to "no_quality_scalability_flag" given) 1;
      hierarchy_type = given_to "hierarchy_type" given;
      layer_index = record { 0 = given_to "hierarchy_layer_index" given };
      tref_present_flag = eqb (given_to "tref_present_flag" given) 1;
      embedded_layer_index = record { 0 = given_to "hierarchy_embedded_layer_index" given };
      channel = record { 0 = given_to "hierarchy_channel" given };
    }

abbrev pub hierarchy_of : Reading → List ℕ → HierarchyRecord
hierarchy_of reading payload = hierarchy_from (hierarchy_read reading payload)

-- the first bit of the first byte, as each reading answers it
abbrev pub first_bit : Reading → ℕ → Bool
first_bit Edition2009 byte = true
first_bit Edition2015 byte = eqb (byte / 128) 1

-- WRITING, under the 2015 reading: what a record gives to the names, and the descriptor, tag 4 and length 4.
abbrev pub hierarchy_given : HierarchyRecord → Given
hierarchy_given h =
    ("no_view_scalability_flag", bit_of h.no_view)
    ∷ ("no_temporal_scalability_flag", bit_of h.no_temporal)
    ∷ ("no_spatial_scalability_flag", bit_of h.no_spatial)
    ∷ ("no_quality_scalability_flag", bit_of h.no_quality)
    ∷ ("hierarchy_type", h.hierarchy_type)
    ∷ ("hierarchy_layer_index", h.layer_index.0)
    ∷ ("tref_present_flag", bit_of h.tref_present_flag)
    ∷ ("hierarchy_embedded_layer_index", h.embedded_layer_index.0)
    ∷ ("hierarchy_channel", h.channel.0)
    ∷ []

abbrev pub hierarchy_fields : HierarchyRecord → List ℕ
hierarchy_fields h = values_by (hierarchy_descriptor Edition2015) (hierarchy_given h)

abbrev pub hierarchy_tables : HierarchyRecord → List Filled
hierarchy_tables h = head_table 4 4 ∷ filled (hierarchy_descriptor Edition2015) (hierarchy_given h) ∷ []
