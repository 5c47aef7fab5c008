-- One record on one stream, judged by the refusals of document 01 that look at nothing else: 6, 7 and 9.
-- Assumes nothing.
use Rattle.std.specs.Prelude.{ℕ, ◌+◌, ◌≡◌, Bool, true, false, not, ◌&&◌, ◌||◌, List, [], ◌∷◌, eqb, leb, ltb, length, get_or, take}
use Rattle.combinators.specs.Below.{some}
use Rattle.combinators.specs.Members.{member}
use Rattle.vocabulary.specs.StreamTypes.{may_stand_on}
use Rattle.vocabulary.specs.declared.LayerIndex.{LayerIndex}
use Rattle.records.specs.Records.{is_layer, index_of, named}
use Rattle.hierarchy.specs.declared.HierarchyRecord.{HierarchyRecord}
use Rattle.records.specs.declared.Record.{Record}
use Rattle.records.specs.declared.Record.TheVariants.{NoRecord, Hierarchy, Extension, Implied}

-- for refusal 8: two layers of the same index, each on its stream type
abbrev pub same_index : ℕ → Record → ℕ → Record → Bool
same_index a_type a bType b = is_layer a && is_layer b && eqb (index_of a_type a) (index_of bType b)

-- 6. 'type not allowed on this stream, or an extension on 0x1B, 0x1F, 0x20 in the 2015 reading'; 'the loop writer uses 6 also for a record on a
-- stream type the 2015 reading doesn't know'. So an extension may stand on the types that reading knows but for these three, and of a stream whose
-- type is not known a reading has no record. The 2009 reading skips every extension.
abbrev pub extension_on : List ℕ
extension_on = 0x24 ∷ 0x25 ∷ 0x28 ∷ 0x29 ∷ 0x2A ∷ 0x2B ∷ []

-- Document 02, W-201: 'the loop writer gives 6 at the first entry whose implied mark isn't what this rule gives', which is a mark where the rule gives none, and none
-- where it gives one. What it gives this entry comes first.
abbrev pub type_not_allowed : Bool → ℕ → Record → Bool
type_not_allowed given stream_type NoRecord = given
type_not_allowed given stream_type (Hierarchy h) = not (may_stand_on h.hierarchy_type stream_type)
type_not_allowed given stream_type (Extension x) = not (member stream_type extension_on)
type_not_allowed given stream_type Implied = not given

-- 7. 'type 9 with a flag at 0, or more than one flag at 0 and type not 8 (2009: the last three flags only)'. The 2009 reading answers
-- no_view as 1, so that of its records this rule counts the last three flags alone.
abbrev pub at0 : Bool → ℕ
at0 true = 0
at0 false = 1

abbrev pub flags_at0 : HierarchyRecord → ℕ
flags_at0 h = at0 h.no_view + at0 h.no_temporal + at0 h.no_spatial + at0 h.no_quality

abbrev pub flags_wrong_for : ℕ → ℕ → Bool
flags_wrong_for hierarchyType flags = (eqb hierarchyType 9 && ltb 0 flags) || (ltb 1 flags && not (eqb hierarchyType 8))

abbrev pub wrong_flags : Record → Bool
wrong_flags NoRecord = false
wrong_flags (Hierarchy h) = flags_wrong_for h.hierarchy_type (flags_at0 h)
wrong_flags (Extension x) = false
wrong_flags Implied = false

-- 9. 'an embedded index not below the layer's own, or listed twice': some index of the list is not below the layer's own, or stands in
-- the list before. A base layer lists nothing, and so is never concerned.
abbrev pub wrong_at : ℕ → List ℕ → ℕ → Bool
wrong_at own indices i = leb own (get_or indices i 0) || member (get_or indices i 0) (take i indices)

abbrev pub wrong_list : ℕ → List ℕ → Bool
wrong_list own indices = some (wrong_at own indices) (length indices)

abbrev pub wrong_embedded : ℕ → Record → List LayerIndex → Bool
wrong_embedded stream_type r layers = wrong_list (index_of stream_type r) (named stream_type r layers)

-- the answer for every stream type: of an implied layer 9 never holds, and of the others the type says nothing
abbrev pub TellsEmbedded : Bool → Record → List LayerIndex → Type 0
TellsEmbedded told r layers = (stream_type : ℕ) → told ≡ wrong_embedded stream_type r layers
