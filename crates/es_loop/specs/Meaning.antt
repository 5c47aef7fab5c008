-- WHAT A LOOP'S ANSWER MEANS, in the words of document 01 and of W-201. The bytes are cut into entries; each number has its condition at an entry; the
-- answer is the lowest number that applies, at its earliest place, or every entry where none applies.
-- proofs/Meant.antt has the law that joins this to what is computed: the computed answer has this meaning, and no other answer has it.
-- Assumes nothing.
use Rattle.std.specs.Prelude.{ℕ, ◌≤◌, ◌<◌, ◌≡◌, true, false, List, [], ◌∷◌, map, length}
use Rattle.combinators.specs.Lists.{Nth, gather}
use Rattle.combinators.specs.Padding.{pad_to}
use Rattle.framing.specs.Pieces.{Item, whole, broken, Cuts}
use Rattle.vocabulary.specs.declared.LayerIndex.{LayerIndex}
use Rattle.vocabulary.specs.declared.stream_types.Reading.{Reading}
use Rattle.vocabulary.specs.declared.refusal.Refusal.{Refusal}
use Rattle.vocabulary.specs.declared.refusal.Refusal.TheVariants.{LoopTooLong}
use Rattle.vocabulary.specs.Refusals.{number_of, place_of}
use Rattle.vocabulary.specs.StreamTypes.{known}
use Rattle.hierarchy.specs.declared.HierarchyRecord.{HierarchyRecord}
use Rattle.records.specs.declared.Record.{Record}
use Rattle.records.specs.declared.Record.TheVariants.{Hierarchy, Implied}
use Rattle.extension.specs.Extension.{no_layer}
use Rattle.descriptors.specs.Looking.{Kind, does_not_fit, wrong_length, Held, held_in}
use Rattle.descriptors.specs.Meaning.{Descriptors}
use Rattle.records.specs.Records.{index_of}
use Rattle.implied.specs.Rule.{is_view}
use Rattle.judging.specs.Meaning.{TypeNotAllowed, WrongFlags, WrongEmbedded}
use Rattle.es_loop.specs.declared.reader.LoopRead.{LoopRead}
use Rattle.loop_entries.specs.Entries.{stream_type, elementary_pid, es_info_length, stream_of, marked_streams}
use Rattle.es_loop.specs.Reading.{refused_with, accepted}

module _ (reading : Reading) (entries : List Item) where
  -- An entry whose stream type the reading knows, so that its descriptors are looked into.
  pub record KnownAt (k t : ℕ) (info : List ℕ) : Type 0 where
    pub head : List ℕ
    pub entry : Nth entries k (whole head info)
    pub type : stream_type head ≡ t
    pub is_known : known reading t ≡ true

  -- A known stream with a record, the first where it has several (which is refused with 5), and the record's embedded layers.
  pub record RecordAt (k t : ℕ) (r : Record) (layers : List LayerIndex) : Type 0 where
    pub info : List ℕ
    pub stream : KnownAt k t info
    pub kinds : List Kind
    pub descriptors : Descriptors reading info kinds
    pub others : List Held
    pub first : gather held_in kinds ≡ record { held = r; layers = layers } ∷ others

  -- W-201: 'exactly one' entry of this type, and it has no hierarchy descriptor. (One of a wrong length, or behind another record, is refused with 4 or 5, which come
  -- before every number that a mark could move.)
  pub record OnlyView (t : ℕ) : Type 0 where
    pub place : ℕ
    pub info : List ℕ
    pub stream : KnownAt place t info
    pub alone : (j : ℕ) (head other : List ℕ) → Nth entries j (whole head other) → stream_type head ≡ t → j ≡ place
    pub plain : (h : HierarchyRecord) (layers : List LayerIndex) → RecordAt place t (Hierarchy h) layers → ⊥

  -- 'When a loop holds exactly one 0x1B and exactly one 0x20 and neither has a hierarchy descriptor'
  pub record ImpliedViews : Type 0 where
    pub first : OnlyView 0x1B
    pub second : OnlyView 0x20

  -- A layer: a known stream with a record, or one of two views without; 'the first is a base layer of index 0 and the second has index 1 resting on 0'.
  pub data LayerAt (k t : ℕ) : Record → List LayerIndex → Type 0 where
    written : {r : Record} {layers : List LayerIndex} → RecordAt k t r layers → LayerAt k t r layers
    implied : {info : List ℕ} → ImpliedViews → KnownAt k t info → is_view t ≡ true
        → ((r : Record) (layers : List LayerIndex) → RecordAt k t r layers → ⊥) → LayerAt k t Implied []

  -- The table 'Refusal numbers', 2 to 9: the condition of each number, and the entry that is its place. 10 is withdrawn: an extension lists as many
  -- layers as its six bits allow.
  pub data Condition : ℕ → ℕ → Type 0 where
    -- 2: an entry or a descriptor doesn't fit in the bytes that hold it
    entry_unfit : {k : ℕ} → Nth entries k broken → Condition 2 k
    descriptor_unfit : {k t : ℕ} {info : List ℕ} {kinds : List Kind} → KnownAt k t info → Descriptors reading info kinds → {i : ℕ} → Nth kinds i does_not_fit
        → Condition 2 k
    -- 3: a PID seen in an earlier entry
    pid_seen : {j k : ℕ} {head info head' info' : List ℕ} → j < k → Nth entries j (whole head info) → Nth entries k (whole head' info')
        → elementary_pid head ≡ elementary_pid head' → Condition 3 k
    -- 4: on a known stream, tag 4 with length not 4, or the extension with another length than its count demands or too short to hold its count
    length_wrong : {k t : ℕ} {info : List ℕ} {kinds : List Kind} → KnownAt k t info → Descriptors reading info kinds → {i : ℕ} → Nth kinds i wrong_length
        → Condition 4 k
    -- 5: two hierarchy records on one known stream
    two_records : {k t : ℕ} {info : List ℕ} {kinds : List Kind} → KnownAt k t info → Descriptors reading info kinds → 2 ≤ length (gather held_in kinds)
        → Condition 5 k
    -- 6: type not allowed on this stream, or an extension on 0x1B, 0x1F, 0x20; what stands in the bytes is no mark, so that none is given here
    type_wrong : {k t : ℕ} {r : Record} {layers : List LayerIndex} → RecordAt k t r layers → TypeNotAllowed false t r → Condition 6 k
    -- 7: type 9 with a flag at 0, or more than one flag at 0 and type not 8
    flags_wrong : {k t : ℕ} {r : Record} {layers : List LayerIndex} → RecordAt k t r layers → WrongFlags r → Condition 7 k
    -- 8: a layer index held by an earlier layer, 'also when an implied index meets a written one, at the later entry'
    index_held : {j k t t' : ℕ} {r r' : Record} {layers layers' : List LayerIndex} → j < k → LayerAt j t r layers → LayerAt k t' r' layers'
        → index_of t r ≡ index_of t' r' → Condition 8 k
    -- 9: an embedded index not below the layer's own, or listed twice
    embedded_wrong : {k t : ℕ} {r : Record} {layers : List LayerIndex} → RecordAt k t r layers → WrongEmbedded t r (pad_to 63 no_layer layers)
        → Condition 9 k

-- The answer of reading a loop. A refusal is the one that has the number and the place.
pub data Answers (reading : Reading) (bytes : List ℕ) : LoopRead → Type 0 where
  -- 1: the loop is longer than 1,008 bytes
  too_long_lem : 1008 < length bytes → Answers reading bytes (refused_with LoopTooLong)
  -- the lowest number that applies, at its earliest place
  refuses : {entries : List Item} {refusal : Refusal} → length bytes ≤ 1008 → Cuts 5 es_info_length bytes entries
      → Condition reading entries (number_of refusal) (place_of refusal)
      → ((m j : ℕ) → m < number_of refusal → Condition reading entries m j → ⊥)
      → ((j : ℕ) → j < place_of refusal → Condition reading entries (number_of refusal) j → ⊥)
      → Answers reading bytes (refused_with refusal)
  -- every entry, in loop order, where no number applies, and the marks that W-201 gives
  accepts : {entries : List Item} → length bytes ≤ 1008 → Cuts 5 es_info_length bytes entries
      → ((n k : ℕ) → Condition reading entries n k → ⊥) → Answers reading bytes (accepted (marked_streams (map (stream_of reading) entries)))
