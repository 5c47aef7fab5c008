-- WHAT A LAYER SET IS, and what its changes mean, in the words of document 02, W-207. proofs/Kept.antt has the laws that every call keeps it, proofs/Meant.antt those
-- that join the changes to what is computed: the computed answer has this meaning, and no other answer has it.
-- Assumes nothing.
use Rattle.std.specs.Prelude.{ℕ, ◌^◌, ◌<◌, true, false, List, [], ◌∷◌, ◌↔◌, ◌≢◌, ◌≡◌, length, get_or}
use Rattle.sets.specs.Sets.{has, size}
use Rattle.vocabulary.specs.declared.refusal.Refusal.{Refusal}
use Rattle.vocabulary.specs.declared.refusal.Refusal.TheVariants.{TooWide, NoSuchLayer}
use Rattle.vocabulary.specs.Refusals.{number_of, place_of}
use Rattle.records.specs.declared.Record.TheVariants.{NoRecord, Implied}
use Rattle.records.specs.Records.{is_layer, index_of}
use Rattle.implied.specs.Rule.{is_view}
use Rattle.judging.specs.Judging.{type_not_allowed, wrong_flags, wrong_embedded}
use Rattle.judging.specs.Meaning.{has_descriptor, TypeNotAllowed, WrongFlags, WrongEmbedded}
use Rattle.loop_entries.specs.declared.Entry.{Entry}
use Rattle.loop_entries.specs.Entries.{blank_entry}
use Rattle.loop_writer.specs.Layout.{too_wide}
use Rattle.closure.specs.Closures.{is_layer as in_layers}
use Rattle.closure.specs.Meaning.{RestsOn, Missing}
use Rattle.loop_layers.specs.Layers.{embedded_in}
use Rattle.layer_set.specs.declared.«set».LayerSet.{LayerSet}
use Rattle.layer_set.specs.declared.changing.Changed.{Changed}
use Rattle.layer_set.specs.Sets.{entry_at, unchanged, changed, added_to, removed_from}

-- ---- a set

-- An entry that may stand at an index: a layer of that index, to which none of 6, 7 and 9 applies. The mark of two views is right on either, also where the other view
-- was removed.
pub record Stands (i : ℕ) (e : Entry) : Type 0 where
  pub layer : is_layer e.«record» ≡ true
  pub index : index_of e.stream_type e.«record» ≡ i
  pub allowed : type_not_allowed (is_view e.stream_type) e.stream_type e.«record» ≡ false
  pub flags : wrong_flags e.«record» ≡ false
  pub list : wrong_embedded e.stream_type e.«record» e.embedded ≡ false

-- 'A layer set holds layers only, by index': at an index stands a layer, with what it names; or nothing.
pub data At (s : LayerSet) (i : ℕ) : Type 0 where
  a_layer : has s.layers.present i ≡ true → Stands i (entry_at s.entries i) → get_or s.layers.embedded i 0 ≡ embedded_in (entry_at s.entries i) → At s i
  nothing : has s.layers.present i ≡ false → entry_at s.entries i ≡ blank_entry → get_or s.layers.embedded i 0 ≡ 0 → At s i

-- THE STORED VALUES of an index, over what a layer rests on: 'its closure as a set of 64 indices, the number of layers in the closure, and whether one is absent'. 'An absent
-- index belongs to the set as named and counts, but what lies below it is unknown and adds nothing until that layer is added': so `RestsOn` has it.
pub data Stored (s : LayerSet) (i : ℕ) : Type 0 where
  of_layer_lem : in_layers s.layers i ≡ true
      → ((j : ℕ) → (has (get_or s.stored.closures i 0) j ≡ true) ↔ RestsOn s.layers i j)
      → get_or s.stored.sizes i 0 ≡ size (get_or s.stored.closures i 0)
      → (get_or s.stored.absents i false ≡ true) ↔ ((j : ℕ) × Missing s.layers i j)
      → Stored s i
  of_none : in_layers s.layers i ≡ false → get_or s.stored.closures i 0 ≡ 0 → get_or s.stored.sizes i 0 ≡ 0 → get_or s.stored.absents i false ≡ false → Stored s i

pub record Places (s : LayerSet) : Type 0 where
  pub of_entries : length s.entries ≡ 64
  pub of_embedded : length s.layers.embedded ≡ 64
  pub of_closures : length s.stored.closures ≡ 64
  pub of_sizes : length s.stored.sizes ≡ 64
  pub of_absents : length s.stored.absents ≡ 64

-- THE INVARIANT, which every call keeps.
pub record IsSet (s : LayerSet) : Type 0 where
  pub places : Places s
  pub six_bits : s.layers.present < 2 ^ 64
  pub at : (i : ℕ) → i < 64 → At s i
  -- no two layers have the same PID
  pub pids : (i j : ℕ) → i < 64 → j < 64 → has s.layers.present i ≡ true → has s.layers.present j ≡ true
      → (entry_at s.entries i).pid ≡ (entry_at s.entries j).pid → i ≡ j
  pub stored : (i : ℕ) → i < 64 → Stored s i

-- The layer of an index in a set.
pub record Layer (s : LayerSet) (i : ℕ) (e : Entry) : Type 0 where
  pub in_set : in_layers s.layers i ≡ true
  pub entry : entry_at s.entries i ≡ e

-- ---- adding a layer

module _ (s : LayerSet) (e : Entry) where
  -- The condition of each number: 'adding uses .. 3 for a PID that the set already holds, then 6 to 9 as the 2015 reading of a loop does (6 also for a stream type it
  -- doesn't know)'.
  pub data Condition : ℕ → Type 0 where
    pid_held_lem : {i : ℕ} {x : Entry} → Layer s i x → x.pid ≡ e.pid → Condition 3
    -- 6: type not allowed on this stream, an extension on 0x1B, 0x1F or 0x20, or a stream type that the 2015 reading doesn't know
    type_wrong : has_descriptor e.«record» ≡ true → TypeNotAllowed false e.stream_type e.«record» → Condition 6
    -- also the mark of two views, which no caller gives, and an entry that is no layer
    implied_mark : e.«record» ≡ Implied → Condition 6
    no_layer_lem : e.«record» ≡ NoRecord → Condition 6
    flags_wrong : WrongFlags e.«record» → Condition 7
    index_held : {x : Entry} → is_layer e.«record» ≡ true → Layer s (index_of e.stream_type e.«record») x → Condition 8
    embedded_wrong : WrongEmbedded e.stream_type e.«record» e.embedded → Condition 9

  -- the set with that layer more: it stands at its index, and every other layer where it stood
  pub record OneMore (after : LayerSet) : Type 0 where
    pub is_set : IsSet after
    pub new : Layer after (index_of e.stream_type e.«record») e
    pub others : (j : ℕ) (x : Entry) → j ≢ index_of e.stream_type e.«record» → Layer s j x ↔ Layer after j x

  -- THE ANSWER of adding, and the set after it: 'adding uses 25 first'; the lowest number that applies, 'with place 0'; 'a refused operation leaves the set unchanged'
  pub data Adds : Changed → Type 0 where
    too_wide_lem : too_wide e ≡ true → Adds (unchanged s TooWide)
    refuses : {refusal : Refusal} → too_wide e ≡ false → Condition (number_of refusal) → place_of refusal ≡ 0
        → ((m : ℕ) → m < number_of refusal → Condition m → ⊥) → Adds (unchanged s refusal)
    adds : {after : LayerSet} → too_wide e ≡ false → ((n : ℕ) → Condition n → ⊥) → OneMore after → Adds (changed after)

-- ---- removing the layer of an index

module _ (s : LayerSet) (i : ℕ) where
  pub record OneLess (after : LayerSet) : Type 0 where
    pub is_set : IsSet after
    pub gone : in_layers after.layers i ≡ false
    pub others : (j : ℕ) (x : Entry) → j ≢ i → Layer s j x ↔ Layer after j x

  -- 'removing uses 11'
  pub data Removes : Changed → Type 0 where
    no_such_layer : ((x : Entry) → Layer s i x → ⊥) → Removes (unchanged s NoSuchLayer)
    removes : {x : Entry} {after : LayerSet} → Layer s i x → OneLess after → Removes (changed after)

-- ---- sequences of changes

pub data Change : Type 0 where
  adding : Entry → Change
  removing : ℕ → Change

abbrev pub after : LayerSet → Change → LayerSet
after s (adding e) = (added_to s e).«set»
after s (removing i) = (removed_from s i).«set»

abbrev pub after_all : LayerSet → List Change → LayerSet
after_all s [] = s
after_all s (c ∷ cs) = after_all (after s c) cs
