-- AN ENTRY AS A ROW OF 80 NUMBERS, as include/thoquenry.h lays it out: 16 numbers under the names below, then room for 63 embedded layers and one number
-- more that is 0. The names are those of the standard's syntax tables, so that one list, `row_names`, says for both directions where each value
-- stands. In order: the names; the row of an entry; whether a row has a value that is too wide (25); the entry of a row; many rows.
-- Assumes nothing.
use Rattle.std.specs.Prelude.{ℕ, zero, suc, ◌/◌, ◌*◌, min, Bool, not, cond, ◌&&◌, ◌||◌, List, [], ◌∷◌, ◌++◌, map, eqb, ltb, length, take, drop}
use Prim.Native.String.{String}
use Rattle.syntax.specs.Named.{by_names}
use Rattle.combinators.specs.Below.{some}
use Rattle.combinators.specs.Lists.{any, gather}
use Rattle.combinators.specs.Padding.{pad_to}
use Rattle.syntax.specs.Table.{Table, value, fits}
use Rattle.vocabulary.specs.declared.LayerIndex.{LayerIndex}
use Rattle.vocabulary.specs.declared.stream_types.Reading.TheVariants.{Edition2015}
use Rattle.records.specs.declared.Record.{Record}
use Rattle.records.specs.declared.Record.TheVariants.{NoRecord, Hierarchy, Extension, Implied}
use Rattle.hierarchy.specs.Hierarchy.{hierarchy_descriptor, hierarchy_from, hierarchy_fields}
use Rattle.extension.specs.Extension.{extension_head, embedded_layer, no_layer, extension_from, extension_fields}
use Rattle.loop_entries.specs.declared.Entry.{Entry}
use Rattle.loop_entries.specs.Entries.{blank_entry}
use Rattle.entry_rows.specs.Names.{names_of, value_named, picked}

-- the first 16 numbers of a row
abbrev pub row_names : List String
row_names =
    "stream_type"
    ∷ "elementary_PID"
    ∷ "record"
    ∷ "no_view_scalability_flag"
    ∷ "no_temporal_scalability_flag"
    ∷ "no_spatial_scalability_flag"
    ∷ "no_quality_scalability_flag"
    ∷ "hierarchy_type"
    ∷ "hierarchy_layer_index"
    ∷ "tref_present_flag"
    ∷ "hierarchy_embedded_layer_index"
    ∷ "hierarchy_channel"
    ∷ "extension_dimension_bits"
    ∷ "temporal_id"
    ∷ "nuh_layer_id"
    ∷ "num_embedded_layers"
    ∷ []

-- What `record` says: 0 without a record, 1 for the hierarchy descriptor, 2 for the extension, 3 for an implied layer.
abbrev pub kind_of : Record → ℕ
kind_of NoRecord = 0
kind_of (Hierarchy h) = 1
kind_of (Extension x) = 2
kind_of Implied = 3

-- the fields that an entry has, with their widths: its stream type and its PID, what kind of record it has, and the fields of that record's
-- syntax table, of which an implied layer has none
abbrev pub record_table : ℕ → Table
record_table kind = cond (eqb kind 1) (hierarchy_descriptor Edition2015) (cond (eqb kind 2) extension_head [])

abbrev pub entry_table : ℕ → Table
entry_table kind = value 8 "stream_type" ∷ value 13 "elementary_PID" ∷ value 2 "record" ∷ record_table kind

-- ---- the row of an entry

abbrev pub record_fields : Record → List ℕ
record_fields NoRecord = []
record_fields (Hierarchy h) = hierarchy_fields h
record_fields (Extension x) = extension_fields x
record_fields Implied = []

-- 'A field that the entry's record does not have is 0': no name of its table is that field's.
unfoldable pub head_of : ℕ → ℕ → Record → List ℕ
head_of stream_type pid «record» =
    picked row_names (names_of (entry_table (kind_of «record»))) (stream_type ∷ pid ∷ kind_of «record» ∷ record_fields «record»)

-- the same of an entry whose record, if any, has no fields
unfoldable pub fieldless_head : ℕ → ℕ → ℕ → List ℕ
fieldless_head stream_type pid kind = picked row_names (names_of (entry_table 0)) (stream_type ∷ pid ∷ kind ∷ [])

-- the embedded layers that the record counts, 'in the descriptor's order', of which a row has room for 63
abbrev pub layer_number : LayerIndex → ℕ
layer_number index = index.0

abbrev pub list_of : Record → List LayerIndex → List ℕ
list_of NoRecord layers = []
list_of (Hierarchy h) layers = []
list_of Implied layers = []
list_of (Extension x) layers = map layer_number (take (min x.num_embedded_layers 63) layers)

-- '0 .. and so is what stands in `embedded` beyond `num_embedded_layers`', up to the end of the row
unfoldable pub tail_of : Record → List LayerIndex → List ℕ
tail_of «record» layers = pad_to 64 0 (list_of «record» layers)

abbrev pub row_of : Entry → List ℕ
row_of e = head_of e.stream_type e.pid e.«record» ++ tail_of e.«record» e.embedded

-- ---- a row's values

abbrev pub kind_in : List ℕ → ℕ
kind_in row = value_named "record" row_names row

abbrev pub fields_in : Table → List ℕ → List ℕ
fields_in table row = picked (names_of table) row_names row

abbrev pub count_in : List ℕ → ℕ
count_in row = value_named "num_embedded_layers" row_names row

-- the embedded layers that the row counts
abbrev pub list_in : List ℕ → List ℕ
list_in row = take (count_in row) (drop 16 row)

-- 25: 'a value to be written is too wide for its field'
abbrev pub too_wide_for : Table → List ℕ → Bool
too_wide_for table row = not (fits table (fields_in table row))

abbrev pub layer_too_wide : ℕ → Bool
layer_too_wide index = not (fits embedded_layer (index ∷ []))

-- the same of a row: 'a `record` above 3', a value of a field that the entry has, or an embedded layer among those it counts. 'Fields that the entry's
-- record does not have, and embedded indices beyond the count are not looked at.'
unfoldable pub row_too_wide : List ℕ → Bool
row_too_wide row =
    ltb 3 (kind_in row)
    || (too_wide_for (entry_table (kind_in row)) row
    || (eqb (kind_in row) 2 && any layer_too_wide (list_in row)))

-- ---- the entry of a row

abbrev pub record_in : List ℕ → Record
record_in row =
    cond (eqb (kind_in row) 1) (Hierarchy (hierarchy_from (by_names (hierarchy_descriptor Edition2015) (fields_in (hierarchy_descriptor Edition2015) row))))
    (cond (eqb (kind_in row) 2) (Extension (extension_from (by_names extension_head (fields_in extension_head row))))
    (cond (eqb (kind_in row) 3) Implied NoRecord))

abbrev pub layer_of : ℕ → LayerIndex
layer_of index = record { 0 = index }

abbrev pub embedded_in : List ℕ → List LayerIndex
embedded_in row = pad_to 63 no_layer (cond (eqb (kind_in row) 2) (map layer_of (list_in row)) [])

unfoldable pub entry_in : List ℕ → Entry
entry_in row =
    record {
      stream_type = value_named "stream_type" row_names row;
      pid = value_named "elementary_PID" row_names row;
      «record» = record_in row;
      embedded = embedded_in row;
    }

-- ---- many rows, one after another

-- 'one entry for each 80 numbers': 'numbers after the last whole entry are not looked at'
abbrev pub row_count : List ℕ → ℕ
row_count numbers = length numbers / 80

abbrev pub row_at : List ℕ → ℕ → List ℕ
row_at numbers k = take 80 (drop (k * 80) numbers)

-- whether some row has a value that is too wide
abbrev pub some_too_wide : List ℕ → Bool
some_too_wide numbers = some (λ k. row_too_wide (row_at numbers k)) (row_count numbers)

-- the entries of the first n rows
abbrev pub entries_below : List ℕ → ℕ → List Entry
entries_below numbers zero = []
entries_below numbers (suc n) = entries_below numbers n ++ entry_in (row_at numbers n) ∷ []

-- the array that holds them, which has room for the 201 entries that 1,008 bytes can hold
abbrev pub entries_in : List ℕ → List Entry
entries_in numbers = pad_to 201 blank_entry (entries_below numbers (min (row_count numbers) 201))

-- the rows of entries
abbrev pub rows_of : List Entry → List ℕ
rows_of entries = gather row_of entries
