-- The HEVC hierarchy extension descriptor, tag 63 and extension tag 0x06: its syntax table, its record out of the table's values and back, each
-- value by the name of its line, and its list of embedded layers.
-- Assumes nothing.
use Rattle.std.specs.Prelude.{ℕ, ◌+◌, List, [], ◌∷◌, map, eqb, take, drop}
use Rattle.syntax.specs.Table.{Table, value, reserved, fixed}
use Rattle.syntax.specs.Named.{Given, given_to, read_by, values_by}
use Rattle.syntax.specs.Filled.{Filled, filled, bit_of}
use Rattle.vocabulary.specs.declared.LayerIndex.{LayerIndex}
use Rattle.extension.specs.declared.ExtensionRecord.{ExtensionRecord}
use Rattle.descriptor_heads.specs.Head.{head_table}

-- Table 2-111ter, HEVC hierarchy extension descriptor (source 000, clause 2.6.102), after the descriptor's head: the extension tag of
-- Table 2-106, and the fields before the list of embedded layers
abbrev pub extension_head : Table
extension_head =
    fixed 8 0x06
    ∷ value 16 "extension_dimension_bits"
    ∷ value 6 "hierarchy_layer_index"
    ∷ value 3 "temporal_id"
    ∷ value 6 "nuh_layer_id"
    ∷ value 1 "tref_present_flag"
    ∷ reserved 2
    ∷ value 6 "num_embedded_layers"
    ∷ reserved 2
    ∷ value 6 "hierarchy_channel"
    ∷ []

-- one embedded layer of that table's list
abbrev pub embedded_layer : Table
embedded_layer = reserved 2 ∷ value 6 "hierarchy_ext_embedded_layer_index" ∷ []

-- the layer index that stands in an array's blank places
abbrev pub no_layer : LayerIndex
no_layer = record { 0 = 0 }

-- READING.
abbrev pub extension_from : Given → ExtensionRecord
extension_from given =
    record {
      dimension_bits = given_to "extension_dimension_bits" given;
      layer_index = record { 0 = given_to "hierarchy_layer_index" given };
      temporal_id = record { 0 = given_to "temporal_id" given };
      nuh_layer_id = record { 0 = given_to "nuh_layer_id" given };
      tref_present_flag = eqb (given_to "tref_present_flag" given) 1;
      num_embedded_layers = given_to "num_embedded_layers" given;
      channel = record { 0 = given_to "hierarchy_channel" given };
    }

abbrev pub extension_of : List ℕ → ExtensionRecord
extension_of payload = extension_from (read_by extension_head payload)

-- the list of embedded layers, one byte each, in its order
abbrev pub layer_index_of : ℕ → LayerIndex
layer_index_of byte = record { 0 = given_to "hierarchy_ext_embedded_layer_index" (read_by embedded_layer (byte ∷ [])) }

abbrev pub layers_of : List ℕ → List LayerIndex
layers_of list = map layer_index_of list

abbrev pub embedded_of : List ℕ → List LayerIndex
embedded_of payload = layers_of (drop 7 payload)

-- WRITING. What a record gives to the names.
abbrev pub extension_given : ExtensionRecord → Given
extension_given x =
    ("extension_dimension_bits", x.dimension_bits)
    ∷ ("hierarchy_layer_index", x.layer_index.0)
    ∷ ("temporal_id", x.temporal_id.0)
    ∷ ("nuh_layer_id", x.nuh_layer_id.0)
    ∷ ("tref_present_flag", bit_of x.tref_present_flag)
    ∷ ("num_embedded_layers", x.num_embedded_layers)
    ∷ ("hierarchy_channel", x.channel.0)
    ∷ []

abbrev pub extension_fields : ExtensionRecord → List ℕ
extension_fields x = values_by extension_head (extension_given x)

abbrev pub layer_table : LayerIndex → Filled
layer_table index = filled embedded_layer (("hierarchy_ext_embedded_layer_index", index.0) ∷ [])

-- The descriptor: tag 63, 'descriptor_length is 7 plus the number of embedded layers', then as many of the layers beside the record as it counts.
abbrev pub extension_tables : ExtensionRecord → List LayerIndex → List Filled
extension_tables x layers =
    head_table 63 (7 + x.num_embedded_layers)
    ∷ filled extension_head (extension_given x)
    ∷ map layer_table (take x.num_embedded_layers layers)
