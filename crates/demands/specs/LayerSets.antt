-- W-207. 'After reading and after any sequence of the two, each stored value equals the one worked out afresh.' One statement: what holds of a layer set wherever it
-- comes from, and of what is left in a caller's buffers. The promises of the calls are among those of demand 1.
-- Assumes nothing.
use Rattle.std.specs.Prelude.{ℕ, List, [], ◌↔◌, ◌≡◌, Ok}
use Rattle.vocabulary.specs.declared.stream_types.Reading.{Reading}
use Rattle.records.specs.Records.{index_of}
use Rattle.loop_entries.specs.declared.Entry.{Entry}
use Rattle.es_loop.specs.Reading.{loop_read}
use Rattle.closure.specs.Closures.{closure_of}
use Rattle.kept_closures.specs.Kept.{fresh_columns}
use Rattle.loop_layers.specs.Closures.{entries_read}
use Rattle.loop_layers.specs.Meaning.{LayerOf}
use Rattle.layer_set.specs.declared.«set».LayerSet.{LayerSet}
use Rattle.layer_set.specs.Sets.{stored_in, set_of, loop_set, changed, added_to, removed_from, closure_in}
use Rattle.layer_set.specs.Meaning.{IsSet, Layer, Change, after_all}
use Rattle.layer_set.proofs.Keeping.{all_keep}
use Rattle.layer_set.proofs.Meant as meant
use Rattle.layer_set.proofs.Read as read
use Rattle.thoquenry_sets.specs.Calls.{read_set, add_set, remove_set}
use Rattle.held_sets.specs.Meaning.{Leaves}
use Rattle.held_sets.proofs.Left as left

pub record LayerSets : Type 0 where
  -- after reading a loop, in either edition, or from the empty set, and after any sequence of additions and removals: a layer set, whose stored values mean what a layer rests on
  pub from_a_loop : (reading : Reading) (bytes : List ℕ) → (loop_read reading bytes).outcome ≡ Ok tt → (changes : List Change)
      → IsSet (after_all (loop_set reading bytes).«set» changes)
  pub from_nothing : (changes : List Change) → IsSet (after_all (set_of []) changes)
  -- each stored value is the one that would be worked out afresh
  pub stored_afresh : (s : LayerSet) → IsSet s → stored_in s ≡ fresh_columns s.layers
  -- the answer to a target from what is stored is that of `closure`
  pub targets : (s : LayerSet) → IsSet s → (target : ℕ) → closure_in s target ≡ closure_of s.layers target
  -- removing what was just added gives the set that was
  pub removed_again : (s : LayerSet) → IsSet s → (e : Entry) (more : LayerSet) → added_to s e ≡ changed more
      → removed_from more (index_of e.stream_type e.«record») ≡ changed s
  -- a set that came to have the layers of a loop, by whatever changes, is what a fresh reading of that loop gives
  pub as_read : (reading : Reading) (bytes : List ℕ) → (loop_read reading bytes).outcome ≡ Ok tt → (s : LayerSet) → IsSet s
      → ((i : ℕ) (e : Entry) → Layer s i e ↔ LayerOf (entries_read (loop_read reading bytes)) i e) → s ≡ (loop_set reading bytes).«set»
  -- a call leaves in a caller's buffers what was there, or a set
  pub left_by_reading : (layers stored : List ℕ) (reading : ℕ) (bytes : List ℕ) → Leaves layers stored (read_set reading bytes layers stored)
  pub left_by_adding : (layers stored entry : List ℕ) → Leaves layers stored (add_set layers stored entry)
  pub left_by_removing : (layers stored : List ℕ) (index : ℕ) → Leaves layers stored (remove_set layers stored index)

pub layer_sets : LayerSets
layer_sets =
    record {
      from_a_loop = λ reading bytes ok changes. all_keep (loop_set reading bytes).«set» changes (read.read_is_set reading bytes ok);
      from_nothing = λ changes. all_keep (set_of []) changes read.empty_set;
      stored_afresh = meant.stored_afresh;
      targets = meant.target_answer;
      removed_again = meant.removed_again;
      as_read = read.as_read;
      left_by_reading = left.read_leaves;
      left_by_adding = left.add_leaves;
      left_by_removing = left.remove_leaves;
    }
