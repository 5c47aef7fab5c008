-- What a reading sees in the descriptor bytes of a stream that it knows. Each descriptor is of one of five kinds; what is seen of all
-- of them is said of the list of their kinds.
-- Assumes nothing.
use Rattle.std.specs.Prelude.{ℕ, ◌+◌, Bool, true, false, cond, not, ◌&&◌, List, [], ◌∷◌, map, ◌≡◌, refl, eqb, ltb, length, get_or}
use Rattle.combinators.specs.Bools.{apart}
use Rattle.combinators.specs.Lists.{any, gather}
use Rattle.combinators.specs.Padding.{pad_to}
use Rattle.framing.specs.Pieces.{Item, whole, broken, cut}
use Rattle.syntax.specs.Table.{read_table}
use Rattle.vocabulary.specs.declared.LayerIndex.{LayerIndex}
use Rattle.vocabulary.specs.declared.stream_types.Reading.{Reading}
use Rattle.vocabulary.specs.declared.stream_types.Reading.TheVariants.{Edition2009, Edition2015}
use Rattle.hierarchy.specs.declared.HierarchyRecord.{HierarchyRecord}
use Rattle.extension.specs.declared.ExtensionRecord.{ExtensionRecord}
use Rattle.records.specs.declared.Record.{Record}
use Rattle.records.specs.declared.Record.TheVariants.{NoRecord, Hierarchy, Extension}
use Rattle.descriptors.specs.declared.looking.Seen.{Seen}
use Rattle.descriptor_heads.specs.Head.{descriptor_head}
use Rattle.extension.specs.Extension.{no_layer, extension_of, embedded_of}
use Rattle.hierarchy.specs.Hierarchy.{hierarchy_of}

-- the kinds of descriptor
pub data Kind : Type 0 where
  does_not_fit : Kind
  skipped : Kind
  wrong_length : Kind
  hierarchy : HierarchyRecord → Kind
  extension : ExtensionRecord → List LayerIndex → Kind

-- Tag 63 in the 2015 reading: with another extension tag than 0x06, or with no byte to hold one, it is skipped. Its length is 7 plus
-- the number of embedded layers that it counts.
abbrev pub extension_kind : List ℕ → Kind
extension_kind payload =
    cond (ltb 0 (length payload) && eqb (get_or payload 0 0) 0x06)
    (cond (eqb (length payload) (7 + (extension_of payload).num_embedded_layers)) (extension (extension_of payload) (embedded_of payload)) wrong_length)
    skipped

-- Tag 63 by reading: the 2009 reading skips every one.
abbrev pub tag63_kind : Reading → List ℕ → Kind
tag63_kind Edition2009 payload = skipped
tag63_kind Edition2015 payload = extension_kind payload

-- Tag 4 has length 4.
abbrev pub tag4_kind : Reading → List ℕ → Kind
tag4_kind reading payload = cond (eqb (length payload) 4) (hierarchy (hierarchy_of reading payload)) wrong_length

-- In a known stream, descriptors other than these two are skipped.
abbrev pub payload_kind : Reading → ℕ → List ℕ → Kind
payload_kind reading tag payload = cond (eqb tag 4) (tag4_kind reading payload) (cond (eqb tag 63) (tag63_kind reading payload) skipped)

-- the two values of a descriptor's head
abbrev pub descriptor_tag : List ℕ → ℕ
descriptor_tag head = get_or (read_table descriptor_head head) 0 0

abbrev pub descriptor_length : List ℕ → ℕ
descriptor_length head = get_or (read_table descriptor_head head) 1 0

abbrev pub kind_of : Reading → Item → Kind
kind_of reading (whole head payload) = payload_kind reading (descriptor_tag head) payload
kind_of reading broken = does_not_fit

-- the kinds of the descriptors of a stream, in order
abbrev pub kinds_of : Reading → List ℕ → List Kind
kinds_of reading info = map (kind_of reading) (cut 2 descriptor_length info)

-- WHAT IS SEEN. The records among the kinds, in order, each with its embedded layers (a hierarchy record has none beside it).
pub record Held : Type 0 where
  pub held : Record
  pub layers : List LayerIndex

abbrev pub held_in : Kind → List Held
held_in does_not_fit = []
held_in skipped = []
held_in wrong_length = []
held_in (hierarchy h) = record { held = Hierarchy h; layers = [] } ∷ []
held_in (extension x layers) = record { held = Extension x; layers = layers } ∷ []

abbrev pub is_unfit : Kind → Bool
is_unfit does_not_fit = true
is_unfit skipped = false
is_unfit wrong_length = false
is_unfit (hierarchy h) = false
is_unfit (extension x layers) = false

abbrev pub is_wrong_length : Kind → Bool
is_wrong_length does_not_fit = false
is_wrong_length skipped = false
is_wrong_length wrong_length = true
is_wrong_length (hierarchy h) = false
is_wrong_length (extension x layers) = false

pub is_wrong_length_lem : (k : Kind) → is_wrong_length k ≡ true → k ≡ wrong_length
is_wrong_length_lem does_not_fit e = apart e
is_wrong_length_lem skipped e = apart e
is_wrong_length_lem wrong_length e = refl
is_wrong_length_lem (hierarchy h) e = apart e
is_wrong_length_lem (extension x layers) e = apart e

-- the first record, or that there is none
abbrev pub first_record : List Held → Record
first_record [] = NoRecord
first_record (h ∷ hs) = h.held

abbrev pub first_layers : List Held → List LayerIndex
first_layers [] = []
first_layers (h ∷ hs) = h.layers

abbrev pub seen_of_kinds : List Kind → Seen
seen_of_kinds kinds =
    record {
      fits = not (any is_unfit kinds);
      wrong_length = any is_wrong_length kinds;
      second_record = ltb 1 (length (gather held_in kinds));
      «record» = first_record (gather held_in kinds);
      embedded = pad_to 63 no_layer (first_layers (gather held_in kinds));
    }

abbrev pub seen_of : Reading → List ℕ → Seen
seen_of reading info = seen_of_kinds (kinds_of reading info)

-- of a stream whose descriptors are not looked into
abbrev pub nothing_seen : Seen
nothing_seen = seen_of_kinds []
