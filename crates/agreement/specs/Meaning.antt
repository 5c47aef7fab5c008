-- DEMAND 3, IN ITS WORDS: 'Take any loop that the 2015 reading accepts, with any target layer, row table and output room. If every stream the
-- target rests on, itself included, has a 2009 stream type, the 2009 reading gives the identical answer. Otherwise, or if the 2015 reading
-- finds no complete set of layers, the 2009 reading refuses with "no such layer" or "embedded layer absent", for every content of the row
-- table and every output room.' Here is what these words mean, over the meaning of reading a loop, of its layers, of a target's closure and of
-- the whole import; proofs/Agreement.antt has the statement that it is so, with its proof.
-- Assumes nothing.
use Rattle.std.specs.Prelude.{ℕ, List, map, ◌↔◌, ◌≡◌, Err, Ok}
use Rattle.vocabulary.specs.declared.LayerIndex.{LayerIndex}
use Rattle.vocabulary.specs.declared.stream_types.Reading.{Reading}
use Rattle.vocabulary.specs.declared.stream_types.Reading.TheVariants.{Edition2009, Edition2015}
use Rattle.vocabulary.specs.declared.refusal.Refusal.{Refusal}
use Rattle.vocabulary.specs.declared.refusal.Refusal.TheVariants.{NoSuchLayer, EmbeddedLayerAbsent}
use Rattle.loop_entries.specs.declared.Entry.{Entry}
use Rattle.loop_entries.specs.declared.Stream.{Stream}
use Rattle.loop_entries.specs.Entries.{entry_of}
use Rattle.es_loop.specs.Reading.{accepted}
use Rattle.es_loop.specs.Meaning as Loop
use Rattle.closure.specs.declared.Layers.{Layers}
use Rattle.closure.specs.Answer.{Closure}
use Rattle.closure.specs.Meaning.{RestsOn}
use Rattle.closure.specs.Meaning as Target
use Rattle.loop_layers.specs.Meaning.{LayerAt, LayersOf}
use Rattle.loop_layers.specs.Meaning as LoopClosure
use Rattle.join_answers.specs.Answer.{Joined}
use Rattle.rows.specs.Table.{Table}
use Rattle.unit_lists.specs.Sequence.{Lists}
use Rattle.importing.specs.Meaning as Import

-- 'any loop that the 2015 reading accepts': a reading accepts the bytes, answers these entries, and they have these layers.
pub record Accepts (reading : Reading) (bytes : List ℕ) (entries : List Entry) (layers : Layers) : Type 0 where
  pub streams : List Stream
  pub answer : Loop.Answers reading bytes (accepted streams)
  pub entries_are : map entry_of streams ≡ entries
  pub layers_are : LayersOf entries layers

-- 'a 2009 stream type': '2009: 0x1B AVC, 0x1F SVC, 0x20 MVC'
pub data StreamType2009 : ℕ → Type 0 where
  avc : StreamType2009 0x1B
  svc : StreamType2009 0x1F
  mvc : StreamType2009 0x20

module _ (entries : List Entry) (layers : Layers) (target : ℕ) where
  -- 'every stream the target rests on, itself included, has a 2009 stream type': every entry that is a layer of an index which the target
  -- rests on
  pub record Every2009 : Type 0 where
    pub has_type : (k j : ℕ) (e : Entry) → RestsOn layers target j → LayerAt entries k j e → StreamType2009 e.stream_type

  -- 'Otherwise, or if the 2015 reading finds no complete set of layers': no set is the answer to the target
  pub data Otherwise : Type 0 where
    another_type : (Every2009 → ⊥) → Otherwise
    no_complete_set : ((set : ℕ) → Target.Answers layers target (Ok set) → ⊥) → Otherwise

-- 'In demand 3 the answer is the closure with the answer of joining, or the refusal with its place'; and with it goes what the three lists then
-- hold, of which the lengths are the output room.
pub record Answer : Type 0 where
  pub closure : Closure
  pub joined : Joined
  pub after : Lists

abbrev pub answer_of : Closure → Joined → Lists → Answer
answer_of closure joined after = record { closure = closure; joined = joined; after = after }

-- A reading gives an answer for a loop's bytes, a target, a row table and three lists: it is the right closure, and the right answer of the
-- import with the right content of the lists.
pub record Gives (reading : Reading) (bytes : List ℕ) (target : ℕ) (t : Table) (before : Lists) (a : Answer) : Type 0 where
  pub right_closure : LoopClosure.Answers reading bytes target a.closure
  pub right_import : Import.Answers reading bytes target t before a.joined a.after

-- '"no such layer" or "embedded layer absent"', 11 and 12
pub data NoSet : Refusal → Type 0 where
  no_such_layer : NoSet NoSuchLayer
  embedded_layer_absent : (index : LayerIndex) → NoSet (EmbeddedLayerAbsent index)

-- 'the 2009 reading refuses with "no such layer" or "embedded layer absent", for every content of the row table and every output room': with one
-- and the same refusal for all of them, and the lists hold what they held before. (A reading gives one answer: `one_answer` of proofs/Agreement.antt.)
pub record Refuses2009 (bytes : List ℕ) (target : ℕ) : Type 0 where
  pub refusal : Refusal
  pub is_11_or_12 : NoSet refusal
  pub always : (t : Table) (before : Lists) → Gives Edition2009 bytes target t before (answer_of (Err refusal) (Err refusal) before)

-- THE DEMAND, of one loop, with its entries and layers in the 2015 reading, and one target.
pub record Agrees (bytes : List ℕ) (entries : List Entry) (layers : Layers) (target : ℕ) : Type 0 where
  pub identical : Every2009 entries layers target → (t : Table) (before : Lists) (a : Answer)
      → Gives Edition2009 bytes target t before a ↔ Gives Edition2015 bytes target t before a
  pub otherwise : Otherwise entries layers target → Refuses2009 bytes target
