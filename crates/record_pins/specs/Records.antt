-- RECORDS, pinned: 'Type 15 is a base layer: its embedded index is kept for writing but names nothing', and no other type is one; what the bytes of
-- a descriptor say, in which every field differs from every other; and what an implied layer is on each of the two stream types (document 02, W-201).
-- Assumes nothing.
use Rattle.std.specs.Prelude.{ℕ, true, false, List, [], ◌∷◌, ◌↔◌, ◌≡◌, refl}
use Rattle.std.proofs.Common.{eqb-true, eq-eqb}
use Rattle.vocabulary.specs.declared.LayerIndex.{LayerIndex}
use Rattle.vocabulary.specs.declared.stream_types.Reading.TheVariants.{Edition2015}
use Rattle.hierarchy.specs.declared.HierarchyRecord.{HierarchyRecord}
use Rattle.extension.specs.declared.ExtensionRecord.{ExtensionRecord}
use Rattle.records.specs.declared.Record.TheVariants.{Hierarchy, Extension, Implied}
use Rattle.hierarchy.specs.Hierarchy.{hierarchy_of}
use Rattle.extension.specs.Extension.{extension_of, embedded_of}
use Rattle.records.specs.Records.{is_layer, is_base, index_of, channel_of, named, record_tables}

-- a hierarchy record with every field different from every other
abbrev pub of_type : ℕ → HierarchyRecord
of_type type =
    record {
      no_view = true;
      no_temporal = true;
      no_spatial = true;
      no_quality = true;
      hierarchy_type = type;
      layer_index = record { 0 = 40 };
      tref_present_flag = true;
      embedded_layer_index = record { 0 = 30 };
      channel = record { 0 = 20 };
    }

-- 'no_view, no_temporal, no_spatial, no_quality .., hierarchy_type 4; reserved 2, hierarchy_layer_index 6; tref_present_flag 1, reserved 1,
-- hierarchy_embedded_layer_index 6; reserved 2, hierarchy_channel 6': 1101 0001, 11 001001, 0 1 000111, 11 101010
abbrev pub hierarchy_payload : List ℕ
hierarchy_payload = 0xD1 ∷ 0xC9 ∷ 0x47 ∷ 0xEA ∷ []

abbrev pub hierarchy : HierarchyRecord
hierarchy =
    record {
      no_view = true;
      no_temporal = true;
      no_spatial = false;
      no_quality = true;
      hierarchy_type = 1;
      layer_index = record { 0 = 9 };
      tref_present_flag = false;
      embedded_layer_index = record { 0 = 7 };
      channel = record { 0 = 42 };
    }

-- 'extension tag 8, extension_dimension_bits 16, hierarchy_layer_index 6, temporal_id 3, nuh_layer_id 6, tref_present_flag 1, reserved 2,
-- num_embedded_layers 6, reserved 2, hierarchy_channel 6, then per embedded layer reserved 2 and index 6': 00000110, 0xABCD,
-- 001100 110 100001 1, 11 000010, 11 101111, 11 001001, 11 000111
abbrev pub extension_payload : List ℕ
extension_payload = 0x06 ∷ 0xAB ∷ 0xCD ∷ 0x33 ∷ 0x43 ∷ 0xC2 ∷ 0xEF ∷ 0xC9 ∷ 0xC7 ∷ []

abbrev pub extension : ExtensionRecord
extension =
    record {
      dimension_bits = 0xABCD;
      layer_index = record { 0 = 12 };
      temporal_id = record { 0 = 6 };
      nuh_layer_id = record { 0 = 33 };
      tref_present_flag = true;
      num_embedded_layers = 2;
      channel = record { 0 = 47 };
    }

-- the list that stands beside an extension: more than it counts
abbrev pub beside : List LayerIndex
beside = record { 0 = 7 } ∷ record { 0 = 3 } ∷ record { 0 = 5 } ∷ []

pub record RecordsPinned : Type 0 where
  pub hierarchy_read : hierarchy_of Edition2015 hierarchy_payload ≡ hierarchy
  pub extension_read : extension_of extension_payload ≡ extension
  pub embedded_read : embedded_of extension_payload ≡ record { 0 = 9 } ∷ record { 0 = 7 } ∷ []
  pub base_layer : (h : HierarchyRecord) → (is_base h ≡ true) ↔ (h.hierarchy_type ≡ 15)
  pub base_names_nothing : named 0x1B (Hierarchy (of_type 15)) beside ≡ []
  pub others_name_one : (named 0x1B (Hierarchy (of_type 1)) beside ≡ 30 ∷ []) × (named 0x1F (Hierarchy (of_type 8)) beside ≡ 30 ∷ [])
      × (named 0x20 (Hierarchy (of_type 9)) beside ≡ 30 ∷ []) × (named 0x24 (Hierarchy (of_type 14)) beside ≡ 30 ∷ [])
  pub extension_names_as_many_as_it_counts : named 0x24 (Extension extension) beside ≡ 7 ∷ 3 ∷ []
  pub index : (index_of 0x1B (Hierarchy (of_type 15)) ≡ 40) × (index_of 0x20 (Hierarchy (of_type 9)) ≡ 40)
  -- 'the first is a base layer of index 0 and the second has index 1 resting on 0, each with channel 0', the first of type 0x1B and the second of type 0x20;
  -- 'the writer writes no descriptor for these implied layers'
  pub implied_layer : is_layer Implied ≡ true
  pub implied_index : (index_of 0x1B Implied ≡ 0) × (index_of 0x20 Implied ≡ 1)
  pub implied_rests : (named 0x1B Implied beside ≡ []) × (named 0x20 Implied beside ≡ 0 ∷ [])
  pub implied_channel : channel_of Implied ≡ record { 0 = 0 }
  pub implied_not_written : record_tables Implied beside ≡ []

pub records_pinned : RecordsPinned
records_pinned =
    record {
      hierarchy_read = refl;
      extension_read = refl;
      embedded_read = refl;
      base_layer = λ h. (eqb-true h.hierarchy_type 15, eq-eqb h.hierarchy_type 15);
      base_names_nothing = refl;
      others_name_one = (refl, refl, refl, refl);
      extension_names_as_many_as_it_counts = refl;
      index = (refl, refl);
      implied_layer = refl;
      implied_index = (refl, refl);
      implied_rests = (refl, refl);
      implied_channel = refl;
      implied_not_written = refl;
    }
