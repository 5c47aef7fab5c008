-- What both descriptors share: whether a stream with this record is a layer, the layer's index, the layers that it names, and the tables
-- that write it. A record's embedded layers stand beside it, in an array: of a hierarchy record nothing there counts.
--
-- An implied layer has no descriptor (document 02, W-201: 'the first is a base layer of index 0 and the second has index 1 resting on 0, each with channel 0'; the
-- first is of type 0x1B, the second of type 0x20): what it is follows from its stream type, which stands before the record in what asks for it.
-- Assumes nothing.
use Rattle.std.specs.Prelude.{ℕ, Bool, true, false, cond, List, [], ◌∷◌, map, eqb, take}
use Rattle.sets.specs.Sets.{added}
use Rattle.syntax.specs.Filled.{Filled}
use Rattle.vocabulary.specs.declared.HierarchyChannel.{HierarchyChannel}
use Rattle.vocabulary.specs.declared.LayerIndex.{LayerIndex}
use Rattle.hierarchy.specs.declared.HierarchyRecord.{HierarchyRecord}
use Rattle.records.specs.declared.Record.{Record}
use Rattle.records.specs.declared.Record.TheVariants.{NoRecord, Hierarchy, Extension, Implied}
use Rattle.hierarchy.specs.Hierarchy.{hierarchy_tables}
use Rattle.extension.specs.Extension.{extension_tables}

-- LAYERS. A stream without either descriptor is not a layer.
abbrev pub is_layer : Record → Bool
is_layer NoRecord = false
is_layer (Hierarchy h) = true
is_layer (Extension x) = true
is_layer Implied = true

-- an implied layer of type 0x20 is the second view, and the other the first
abbrev pub is_second_view : ℕ → Bool
is_second_view stream_type = eqb stream_type 0x20

abbrev pub implied_index : ℕ → ℕ
implied_index stream_type = cond (is_second_view stream_type) 1 0

-- hierarchy_layer_index as a number, and 0 where there is no layer
abbrev pub index_of : ℕ → Record → ℕ
index_of stream_type NoRecord = 0
index_of stream_type (Hierarchy h) = h.layer_index.0
index_of stream_type (Extension x) = x.layer_index.0
index_of stream_type Implied = implied_index stream_type

-- hierarchy_channel, and 0 where there is no layer
abbrev pub channel_of : Record → HierarchyChannel
channel_of NoRecord = record { 0 = 0 }
channel_of (Hierarchy h) = h.channel
channel_of (Extension x) = x.channel
channel_of Implied = record { 0 = 0 }

-- NAMES. The layers that a record names: a hierarchy record its embedded layer, but a base layer (type 15) none, whatever its embedded
-- index says; an extension as many of the list beside it as it counts; an implied second view the first, whose index is 0.
abbrev pub is_base : HierarchyRecord → Bool
is_base h = eqb h.hierarchy_type 15

abbrev pub hierarchy_list : HierarchyRecord → List LayerIndex
hierarchy_list h = cond (is_base h) [] (h.embedded_layer_index ∷ [])

abbrev pub implied_list : ℕ → List LayerIndex
implied_list stream_type = cond (is_second_view stream_type) (record { 0 = 0 } ∷ []) []

abbrev pub listed : ℕ → Record → List LayerIndex → List LayerIndex
listed stream_type NoRecord layers = []
listed stream_type (Hierarchy h) layers = hierarchy_list h
listed stream_type (Extension x) layers = take x.num_embedded_layers layers
listed stream_type Implied layers = implied_list stream_type

-- the number in a layer index
abbrev pub plain : LayerIndex → ℕ
plain index = index.0

-- the layers that a record names, as numbers
abbrev pub named : ℕ → Record → List LayerIndex → List ℕ
named stream_type r layers = map plain (listed stream_type r layers)

-- a set with more indices; an index that no six bits hold has no place in it
abbrev pub with_indices : ℕ → List ℕ → ℕ
with_indices set [] = set
with_indices set (i ∷ is) = with_indices (added set i) is

-- the set of the layers that a record names
abbrev pub names_of : ℕ → Record → List LayerIndex → ℕ
names_of stream_type r layers = with_indices 0 (named stream_type r layers)

-- WRITING. The tables of a record's descriptor, none without a record; 'the writer writes no descriptor for these implied layers'.
abbrev pub record_tables : Record → List LayerIndex → List Filled
record_tables NoRecord layers = []
record_tables (Hierarchy h) layers = hierarchy_tables h
record_tables (Extension x) layers = extension_tables x layers
record_tables Implied layers = []
