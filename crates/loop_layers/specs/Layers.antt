-- THE LAYERS of a loop, taken from its entries: which indices are present, and by index what each layer has.
-- Assumes nothing.
use Rattle.std.specs.Prelude.{ℕ, cond, List, [], ◌∷◌, map, ltb, set, replicate}
use Rattle.sets.specs.Sets.{added}
use Rattle.records.specs.Records.{channel_of, with_indices, names_of}
use Rattle.loop_entries.specs.declared.Entry.{Entry}
use Rattle.loop_faults.specs.Conditions.{slot_of}
use Rattle.closure.specs.declared.Layers.{Layers}
use Rattle.loop_layers.specs.declared.table.LayerTable.{LayerTable}

-- Where an entry stands in a column of 64 places: at its layer index. A stream that is no layer stands past all of them, and adds nothing.
abbrev pub place_of : Entry → ℕ
place_of e = slot_of e.stream_type e.«record»

-- the layer indices that the entries hold, as a set
abbrev pub present_in : List Entry → ℕ
present_in entries = with_indices 0 (map place_of entries)

-- a column: by layer index, what the layer of that index has, and a blank where there is no such layer
abbrev pub column_with : {A : Type 0} → (Entry → A) → List A → List Entry → List A
column_with value column [] = column
column_with value column (e ∷ es) = column_with value (set column (place_of e) (value e)) es

abbrev pub column_of : {A : Type 0} → A → (Entry → A) → List Entry → List A
column_of blank value entries = column_with value (replicate 64 blank) entries

-- the set of the layers that an entry's record names; a base layer names none, whatever its embedded index says
abbrev pub embedded_in : Entry → ℕ
embedded_in e = names_of e.stream_type e.«record» e.embedded

abbrev pub layers_of : List Entry → Layers
layers_of entries = record { present = present_in entries; embedded = column_of 0 embedded_in entries }

abbrev pub table_of : List Entry → LayerTable
table_of entries =
    record {
      layers = layers_of entries;
      pids = column_of 0 (λ e. e.pid) entries;
      stream_types = column_of 0 (λ e. e.stream_type) entries;
      channels = column_of (record { 0 = 0 }) (λ e. channel_of e.«record») entries;
    }

-- ONE ENTRY MORE, as it is added: a value put into a column at a place, past whose 64 places nothing is put; and a table with the layer of the entry
abbrev pub put_at : {A : Type 0} → List A → ℕ → A → List A
put_at column place value = cond (ltb place 64) (set column place value) column

abbrev pub with_entry : LayerTable → Entry → LayerTable
with_entry table e =
    record {
      layers =
          record {
            present = added table.layers.present (place_of e);
            embedded = put_at table.layers.embedded (place_of e) (embedded_in e);
          };
      pids = put_at table.pids (place_of e) e.pid;
      stream_types = put_at table.stream_types (place_of e) e.stream_type;
      channels = put_at table.channels (place_of e) (channel_of e.«record»);
    }
