-- WHAT IS RIGHT, in the words of document 01: which layers a loop's entries are, what each embeds, and the answer to a target.
-- proofs/Meant.antt has the laws that join this to what is computed: the computed answer has this meaning, and no other answer has it.
-- Assumes nothing.
use Rattle.std.specs.Prelude.{ℕ, ◌<◌, ◌≡◌, true, List, map, ◌↔◌, length, get_or, Err}
use Rattle.combinators.specs.Lists.{Nth}
use Rattle.combinators.specs.Members.{member}
use Rattle.sets.specs.Sets.{has}
use Rattle.vocabulary.specs.declared.stream_types.Reading.{Reading}
use Rattle.vocabulary.specs.declared.refusal.Refusal.{Refusal}
use Rattle.records.specs.Records.{is_layer, index_of, named, channel_of}
use Rattle.loop_entries.specs.declared.Entry.{Entry}
use Rattle.loop_entries.specs.declared.Stream.{Stream}
use Rattle.loop_entries.specs.Entries.{entry_of}
use Rattle.es_loop.specs.Reading.{refused_with, accepted}
use Rattle.es_loop.specs.Meaning as Loop
use Rattle.closure.specs.declared.Layers.{Layers}
use Rattle.closure.specs.Answer.{Closure}
use Rattle.closure.specs.Meaning as Target
use Rattle.loop_layers.specs.declared.table.LayerTable.{LayerTable}

module _ (entries : List Entry) where
  -- The entry e is a layer of index i.
  pub record LayerAt (k i : ℕ) (e : Entry) : Type 0 where
    pub entry : Nth entries k e
    pub layer : is_layer e.«record» ≡ true
    pub index : index_of e.stream_type e.«record» ≡ i

  -- THE LAYER OF AN INDEX, which is a number of six bits: the last entry that is one. In an accepted loop no index has two, by refusal 8.
  pub record LayerOf (i : ℕ) (e : Entry) : Type 0 where
    pub six_bits : i < 64
    pub place : ℕ
    pub at_place : LayerAt place i e
    pub last : (k : ℕ) (x : Entry) → place < k → LayerAt k i x → ⊥

  pub record HasLayer (i : ℕ) : Type 0 where
    pub entry : Entry
    pub layer : LayerOf i entry

  -- Layer i embeds j: it is one of the indices that the layer lists (a base layer, type 15, lists none, and an implied layer of type 0x20 lists 0).
  pub record Embeds (i j : ℕ) : Type 0 where
    pub entry : Entry
    pub layer : LayerOf i entry
    pub listed : member j (named entry.stream_type entry.«record» entry.embedded) ≡ true
    pub six_bits : j < 64

  -- THE LAYERS of the entries: bit i of `present` is 1 exactly where they have a layer of index i, and bit j of `embedded` at i exactly
  -- where that layer embeds j.
  pub record LayersOf (layers : Layers) : Type 0 where
    pub present : (i : ℕ) → (has layers.present i ≡ true) ↔ HasLayer i
    pub embedded : (i j : ℕ) → (has (get_or layers.embedded i 0) j ≡ true) ↔ Embeds i j
    pub places : length layers.embedded ≡ 64

  -- A COLUMN by layer index: what the layer of that index has, and a blank where there is none.
  pub record ColumnOf {A : Type 0} (blank : A) (value : Entry → A) (column : List A) : Type 0 where
    pub places : length column ≡ 64
    pub layer : (i : ℕ) (e : Entry) → LayerOf i e → get_or column i blank ≡ value e
    pub no_layer : (i : ℕ) → i < 64 → (HasLayer i → ⊥) → get_or column i blank ≡ blank

  -- THE TABLE of the layers: with the layers themselves, the PID, the stream type and the channel of each.
  pub record TableOf (table : LayerTable) : Type 0 where
    pub layers : LayersOf table.layers
    pub pids : ColumnOf 0 (λ e. e.pid) table.pids
    pub stream_types : ColumnOf 0 (λ e. e.stream_type) table.stream_types
    pub channels : ColumnOf (record { 0 = 0 }) (λ e. channel_of e.«record») table.channels

-- THE ANSWER TO A TARGET in the loop of these bytes: a refused loop gives its refusal; else it is the answer in the layers of the loop's
-- entries, which is exactly the layers that the target rests on, or 11, or 12.
pub data Answers (reading : Reading) (bytes : List ℕ) (target : ℕ) : Closure → Type 0 where
  loop_refused : {refusal : Refusal} → Loop.Answers reading bytes (refused_with refusal) → Answers reading bytes target (Err refusal)
  loop_accepted : (streams : List Stream) {layers : Layers} {answer : Closure} → Loop.Answers reading bytes (accepted streams)
      → LayersOf (map entry_of streams) layers → Target.Answers layers target answer → Answers reading bytes target answer
