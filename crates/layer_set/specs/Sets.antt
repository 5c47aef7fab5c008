-- LAYER SETS: the set of some entries, worked out afresh; a layer more, a layer less, and the answer to a target.
-- Assumes nothing.
use Rattle.std.specs.Prelude.{ℕ, Bool, not, cond, ◌&&◌, List, [], eqb, ltb, get_or, set, Err, Ok}
use Rattle.combinators.specs.Below.{some}
use Rattle.combinators.specs.Lists.{first_true}
use Rattle.sets.specs.Sets.{has, added}
use Rattle.vocabulary.specs.declared.stream_types.Reading.{Reading}
use Rattle.vocabulary.specs.declared.refusal.Refusal.{Refusal}
use Rattle.vocabulary.specs.declared.refusal.Refusal.TheVariants.{TooWide, NoSuchLayer}
use Rattle.records.specs.declared.Record.TheVariants.{NoRecord}
use Rattle.records.specs.Records.{is_layer}
use Rattle.loop_entries.specs.declared.Entry.{Entry}
use Rattle.es_loop.specs.declared.reader.LoopRead.{LoopRead}
use Rattle.loop_entries.specs.Entries.{blank_entry}
use Rattle.loop_faults.specs.Conditions.{conditions, refusal_of}
use Rattle.es_loop.specs.Reading.{loop_read}
use Rattle.loop_writer.specs.Layout.{too_wide}
use Rattle.loop_writer.specs.Verdict.{stream_for}
use Rattle.closure.specs.declared.Layers.{Layers}
use Rattle.closure.specs.Answer.{Closure}
use Rattle.kept_closures.specs.declared.Columns.{Columns}
use Rattle.kept_closures.specs.Kept.{with_layer, without_layer, columns_added, columns_removed, fresh_columns, answer_kept}
use Rattle.loop_layers.specs.Layers.{place_of, column_of, embedded_in, layers_of, put_at}
use Rattle.loop_layers.specs.Closures.{entries_read}
use Rattle.layer_set.specs.declared.«set».LayerSet.{LayerSet}
use Rattle.layer_set.specs.declared.«set».Placed.{Placed}
use Rattle.layer_set.specs.declared.reading.SetRead.{SetRead}
use Rattle.layer_set.specs.declared.changing.Changed.{Changed}

-- the three stored values, by index
abbrev pub stored_in : LayerSet → Columns
stored_in s = s.stored

abbrev pub set_with : Layers → List Entry → Columns → LayerSet
set_with layers entries stored =
    record { layers = layers; entries = entries; stored = stored }

-- ---- worked out afresh

-- the entries that are layers, each at its index, and a blank where there is none
abbrev pub entries_by : List Entry → List Entry
entries_by entries = column_of blank_entry (λ e. e) entries

abbrev pub placed_of : List Entry → Placed
placed_of entries = record { layers = layers_of entries; entries = entries_by entries }

-- one entry more
abbrev pub placed_next : Placed → Entry → Placed
placed_next placed e =
    record {
      layers =
          record {
            present = added placed.layers.present (place_of e);
            embedded = put_at placed.layers.embedded (place_of e) (embedded_in e);
          };
      entries = put_at placed.entries (place_of e) e;
    }

-- 'Store in each layer record its closure as a set of 64 indices, the number of layers in the closure, and whether one is absent. These three are worked out and
-- never given.'
abbrev pub worked_set : Placed → LayerSet
worked_set placed = set_with placed.layers placed.entries (fresh_columns placed.layers)

-- THE SET OF ENTRIES
abbrev pub set_of : List Entry → LayerSet
set_of entries = worked_set (placed_of entries)

-- THE SET OF A LOOP, given what reading it answered: of a refused loop there is no layer
abbrev pub set_read : LoopRead → SetRead
set_read read = record { outcome = read.outcome; «set» = set_of (entries_read read) }

unfoldable pub loop_set : Reading → List ℕ → SetRead
loop_set reading bytes = set_read (loop_read reading bytes)

-- ---- changes

abbrev pub unchanged : LayerSet → Refusal → Changed
unchanged s refusal = record { outcome = Err refusal; «set» = s }

abbrev pub changed : LayerSet → Changed
changed s = record { outcome = Ok tt; «set» = s }

-- what stands at a place of the entries
abbrev pub no_entry : Entry
no_entry = record { stream_type = 0; pid = 0; «record» = NoRecord; embedded = [] }

abbrev pub entry_at : List Entry → ℕ → Entry
entry_at entries i = get_or entries i no_entry

-- 3: 'a PID that the set already holds'
abbrev pub held_at : ℕ → Entry → ℕ → ℕ → Bool
held_at present e i pid = has present i && eqb e.pid pid

unfoldable pub pid_held : ℕ → List Entry → ℕ → Bool
pid_held present entries pid = some (λ i. held_at present (entry_at entries i) i pid) 64

-- The lowest of 3 and 6 to 9, or 10 where none applies, 'as the 2015 reading of a loop does': by the conditions of a loop's entry. An entry that is no layer is
-- refused as one whose mark is missing, and one with the mark as one that is not given it.
abbrev pub fault_of : ℕ → List Entry → Entry → ℕ
fault_of present entries e =
    first_true (conditions (not (is_layer e.«record»)) (pid_held present entries e.pid) (has present (place_of e)) (stream_for e))

-- the set with the layer that an entry is, at its index
abbrev pub with_layer_of : LayerSet → Entry → LayerSet
with_layer_of s e =
    set_with
    (with_layer s.layers (place_of e) (embedded_in e))
    (set s.entries (place_of e) e)
    (columns_added s.layers.present (place_of e) (embedded_in e) (stored_in s))

-- ADDING A LAYER: 'adding uses 25 first, then 3 for a PID that the set already holds, then 6 to 9 .. with place 0'; 'a refused operation leaves the set unchanged'
abbrev pub judged_add : LayerSet → Entry → ℕ → Changed
judged_add s e number = cond (ltb number 10) (unchanged s (refusal_of number 0)) (changed (with_layer_of s e))

unfoldable pub added_to : LayerSet → Entry → Changed
added_to s e = cond (too_wide e) (unchanged s TooWide) (judged_add s e (fault_of s.layers.present s.entries e))

-- the set without the layer of an index
abbrev pub without_layer_at : LayerSet → ℕ → LayerSet
without_layer_at s i =
    set_with
    (without_layer s.layers i)
    (set s.entries i blank_entry)
    (columns_removed s.layers.present s.layers.embedded i (stored_in s))

-- REMOVING THE LAYER OF AN INDEX: 'removing uses 11'
unfoldable pub removed_from : LayerSet → ℕ → Changed
removed_from s i = cond (ltb i 64 && has s.layers.present i) (changed (without_layer_at s i)) (unchanged s NoSuchLayer)

-- THE ANSWER TO A TARGET from what is stored
abbrev pub closure_in : LayerSet → ℕ → Closure
closure_in s target = answer_kept s.layers.present s.stored.closures s.stored.absents target
