-- WHICH PIDS ARE LAYER PIDS, in the request's words: 'Under the 2015 reading of the loop; the PIDs of all its layers (implied ones too) are layer PIDs, also
-- those outside the target's closure.' No target is asked for here. proofs/Meant.antt has the laws that join this to the table that is computed, both ways.
-- Assumes nothing.
use Rattle.std.specs.Prelude.{ℕ, ◌<◌, ◌≡◌, List, map, ◌↔◌, length, get_or}
use Rattle.vocabulary.specs.declared.stream_types.Reading.TheVariants.{Edition2015}
use Rattle.loop_entries.specs.declared.Entry.{Entry}
use Rattle.loop_entries.specs.declared.Stream.{Stream}
use Rattle.loop_entries.specs.Entries.{entry_of}
use Rattle.es_loop.specs.Reading.{accepted}
use Rattle.es_loop.specs.Meaning as Loop
use Rattle.loop_layers.specs.declared.table.LayerTable.{LayerTable}
use Rattle.loop_layers.specs.Closures.{loop_table}
use Rattle.loop_layers.specs.Meaning.{LayerAt}
use Rattle.pid_layers.specs.PidLayers.{pids, layers_by_pid}
use Rattle.packets.specs.Reading.{in_header}
use Rattle.scanning.specs.Events.{layers, layer_of}

-- THE TABLE of a loop's layers by their PIDs
abbrev pub by_pid : LayerTable → List ℕ
by_pid table = layers_by_pid table.layers.present table.pids

abbrev pub loop_pids : List ℕ → List ℕ
loop_pids bytes = by_pid (loop_table Edition2015 bytes).table

-- what stands at a PID of no layer
abbrev pub no_layer : ℕ
no_layer = 255

module _ (entries : List Entry) where
  -- THE LAYER OF A PID: an entry with this PID that is a layer of this index, by its record or by the implied mark.
  pub record LayerOfPid (pid index : ℕ) : Type 0 where
    pub place : ℕ
    pub entry : Entry
    pub layer : LayerAt entries place index entry
    pub its_pid : entry.pid ≡ pid

  -- A table has a byte for each PID: the index of the PID's layer, whichever layer that is, and a byte that is no index where it has none.
  pub record ByPid (table : List ℕ) : Type 0 where
    pub each_pid : length table ≡ pids
    pub of_layer : (pid index : ℕ) → LayerOfPid pid index → get_or table pid 0 ≡ index
    pub of_none : (pid : ℕ) → pid < pids → ((index : ℕ) → LayerOfPid pid index → ⊥) → get_or table pid 0 ≡ no_layer

  -- WHAT HOLDS of such a table, where the entries are those of a loop that is accepted.
  pub record PidsOfLayers (table : List ℕ) : Type 0 where
    pub by_pid : ByPid table
    -- no two layers share a PID: that would be 3
    pub one_layer : (pid i j : ℕ) → LayerOfPid pid i → LayerOfPid pid j → i ≡ j
    -- no layer has two PIDs: that would be 8
    pub one_pid : (index pid other : ℕ) → LayerOfPid pid index → LayerOfPid other index → pid ≡ other
    -- a layer's PID is one of 13 bits, and its index one of six
    pub in_bits : (pid index : ℕ) → LayerOfPid pid index → (pid < pids) × (index < layers)
    -- a byte is an index exactly where the PID is that of a layer, and then it is the index of that layer
    pub exactly : (pid index : ℕ) → ((pid < pids) × (get_or table pid 0 ≡ index) × (index < layers)) ↔ LayerOfPid pid index
    -- the layer of a packet is that of its PID, whatever its bytes
    pub of_packet : (packet : List ℕ) (index : ℕ) → ((layer_of table packet ≡ index) × (index < layers)) ↔ LayerOfPid (in_header "PID" packet) index
    -- so that 'its predecessor on that PID' may be kept by layer: packets are of one layer exactly where they are of one PID
    pub same_layer : (packet other : List ℕ) → layer_of table packet < layers
        → (layer_of table other ≡ layer_of table packet) ↔ (in_header "PID" other ≡ in_header "PID" packet)

-- THE STATEMENT: of every loop that the 2015 reading accepts, its entries and the table that is computed from its bytes; and no other table tells the layer of each PID.
pub record LayerPids (bytes : List ℕ) (streams : List Stream) : Type 0 where
  pub holds : PidsOfLayers (map entry_of streams) (loop_pids bytes)
  pub alone : (table : List ℕ) → ByPid (map entry_of streams) table → table ≡ loop_pids bytes

abbrev pub OfEveryLoop : Type 0
OfEveryLoop = (bytes : List ℕ) (streams : List Stream) → Loop.Answers Edition2015 bytes (accepted streams) → LayerPids bytes streams
