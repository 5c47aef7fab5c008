-- What refusals 6, 7 and 9 mean: document 01's row of each as a relation, with one case for each 'or' of the row. proofs/Meant.antt has the
-- laws: the computed test is true exactly when the relation holds.
-- Assumes nothing.
use Rattle.std.specs.Prelude.{ℕ, ◌≤◌, ◌<◌, ◌≡◌, ◌≢◌, Bool, true, false, List, length, get_or}
use Rattle.vocabulary.specs.StreamTypes.{known, may_stand_on}
use Rattle.vocabulary.specs.declared.stream_types.Reading.TheVariants.{Edition2015}
use Rattle.vocabulary.specs.declared.LayerIndex.{LayerIndex}
use Rattle.hierarchy.specs.declared.HierarchyRecord.{HierarchyRecord}
use Rattle.extension.specs.declared.ExtensionRecord.{ExtensionRecord}
use Rattle.records.specs.declared.Record.{Record}
use Rattle.records.specs.declared.Record.TheVariants.{NoRecord, Hierarchy, Extension, Implied}
use Rattle.records.specs.Records.{index_of, named}

-- a record that is written as a descriptor
abbrev pub has_descriptor : Record → Bool
has_descriptor NoRecord = false
has_descriptor (Hierarchy h) = true
has_descriptor (Extension x) = true
has_descriptor Implied = false

-- 6. 'type not allowed on this stream, or an extension on 0x1B, 0x1F, 0x20'; 'the loop writer uses 6 also for a record on a stream type the 2015
-- reading doesn't know' (a reading has no record of a stream whose type it doesn't know). And of document 02, W-201: an 'entry whose implied mark isn't what this rule
-- gives', where `given` is whether the rule gives the entry its mark.
pub data TypeNotAllowed (given : Bool) (stream_type : ℕ) : Record → Type 0 where
  hierarchy_type : {h : HierarchyRecord} → may_stand_on h.hierarchy_type stream_type ≡ false → TypeNotAllowed given stream_type (Hierarchy h)
  extension_on_avc : {x : ExtensionRecord} → stream_type ≡ 0x1B → TypeNotAllowed given stream_type (Extension x)
  extension_on_svc : {x : ExtensionRecord} → stream_type ≡ 0x1F → TypeNotAllowed given stream_type (Extension x)
  extension_on_mvc : {x : ExtensionRecord} → stream_type ≡ 0x20 → TypeNotAllowed given stream_type (Extension x)
  unknown_type : {r : Record} → has_descriptor r ≡ true → known Edition2015 stream_type ≡ false → TypeNotAllowed given stream_type r
  mark_not_given : given ≡ false → TypeNotAllowed given stream_type Implied
  mark_missing : given ≡ true → TypeNotAllowed given stream_type NoRecord

-- 7. 'type 9 with a flag at 0, or more than one flag at 0 and type not 8'
pub data Flag : Type 0 where
  view temporal spatial quality : Flag

-- no_view, no_temporal, no_spatial, no_quality
abbrev pub flag : HierarchyRecord → Flag → Bool
flag h view = h.no_view
flag h temporal = h.no_temporal
flag h spatial = h.no_spatial
flag h quality = h.no_quality

pub data WrongFlags : Record → Type 0 where
  type_9 : {h : HierarchyRecord} (f : Flag) → h.hierarchy_type ≡ 9 → flag h f ≡ false → WrongFlags (Hierarchy h)
  more_than_one : {h : HierarchyRecord} (f g : Flag) → f ≢ g → flag h f ≡ false → flag h g ≡ false → h.hierarchy_type ≢ 8
      → WrongFlags (Hierarchy h)

-- 9. 'an embedded index not below the layer's own, or listed twice'
pub data WrongEmbedded (stream_type : ℕ) (r : Record) (layers : List LayerIndex) : Type 0 where
  not_below : (i : ℕ) → i < length (named stream_type r layers) → index_of stream_type r ≤ get_or (named stream_type r layers) i 0
      → WrongEmbedded stream_type r layers
  listed_twice : (i j : ℕ) → i < j → j < length (named stream_type r layers)
      → get_or (named stream_type r layers) i 0 ≡ get_or (named stream_type r layers) j 0 → WrongEmbedded stream_type r layers
