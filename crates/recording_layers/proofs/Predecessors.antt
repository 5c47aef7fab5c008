-- The last packet that is kept of a layer is the last on the layer's PID.
-- Assumes nothing.
use Prim.Native.Nat.{ℕ}
use mathlib.Core.Path.{◌∙◌, ap}
use mathlib.Core.List.{List, map}
use lib.ListN.{get_or}
use Rattle.framing.specs.Pieces.{Item}
use Rattle.vocabulary.specs.declared.stream_types.Reading.TheVariants.{Edition2015}
use Rattle.loop_entries.specs.declared.Stream.{Stream}
use Rattle.loop_entries.specs.Entries.{entry_of}
use Rattle.es_loop.specs.Reading.{accepted}
use Rattle.es_loop.specs.Meaning as Loop
use Rattle.packets.specs.Reading.{in_header}
use Rattle.recordings.specs.Meaning.{Counts, Predecessor, none, last}
use Rattle.recording_layers.specs.Meaning.{loop_pids, LayerOfPid, PidsOfLayers}
use Rattle.recording_layers.specs.Predecessors.{CountsOn, PredecessorOn, ByPidOrByLayer}
use Rattle.recording_layers.specs.Predecessors.{none as none-on, last as last_on}
use Rattle.recording_layers.proofs.Meant.{layer_pids}

module _ (bytes : List ℕ) (streams : List Stream) (a : Loop.Answers Edition2015 bytes (accepted streams)) (pid index : ℕ)
    (its-layer : LayerOfPid (map entry_of streams) pid index) (packets : List Item) where
  told : PidsOfLayers (map entry_of streams) (loop_pids bytes)
  told = (layer_pids bytes streams a).holds

  on_pid : {k : ℕ} {q : List ℕ} → Counts (loop_pids bytes) packets k index q → CountsOn packets k pid q
  on_pid {k} {q} c =
      record {
        rest = c.rest;
        stands = c.stands;
        in_sync = c.in_sync;
        its_pid = told.one_pid index (in_header "PID" q) pid ((told.of_packet q index).0 (c.on, (told.in_bits pid index its-layer).1)) its-layer;
        read = c.read;
      }

  on_layer_lem : {k : ℕ} {q : List ℕ} → CountsOn packets k pid q → Counts (loop_pids bytes) packets k index q
  on_layer_lem {k} {q} c =
      record {
        rest = c.rest;
        stands = c.stands;
        in_sync = c.in_sync;
        on = ap (λ (p : ℕ). get_or (loop_pids bytes) p 0) c.its_pid ∙ told.by_pid.of_layer pid index its-layer;
        read = c.read;
      }

  by_pid_lem : {k : ℕ} {before : List ℕ} → Predecessor (loop_pids bytes) packets k index before → PredecessorOn packets k pid before
  by_pid_lem (none f) = none-on (λ j q h c. f j q h (on_layer_lem c))
  by_pid_lem (last h c f) = last_on h (on_pid c) (λ i p l m d. f i p l m (on_layer_lem d))

  by_layer : {k : ℕ} {before : List ℕ} → PredecessorOn packets k pid before → Predecessor (loop_pids bytes) packets k index before
  by_layer (none-on f) = none (λ j q h c. f j q h (on_pid c))
  by_layer (last_on h c f) = last h (on_layer_lem c) (λ i p l m d. f i p l m (on_pid d))

pub by_pid_or_by_layer : ByPidOrByLayer
by_pid_or_by_layer bytes streams a pid index its-layer packets k before =
    (λ p. by_pid_lem bytes streams a pid index its-layer packets p, λ p. by_layer bytes streams a pid index its-layer packets p)
