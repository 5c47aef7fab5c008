-- How long rows are: 80 numbers each; and the entry of a row, kind by kind.
-- Assumes nothing.
use Prim.Native.Nat.{ℕ, ◌+◌, ◌*◌, ◌≤◌}
use mathlib.Core.Path.{◌≡◌, refl, ◌∙◌, ap₂}
use mathlib.Core.List.{List, [], ◌∷◌, map}
use native.Mathlib.Omega.{arith}
use lib.ListN.{length, get_or, length-append, length-map, length-take}
use Rattle.syntax.specs.Named.{by_names}
use Rattle.combinators.specs.Padding.{pad_to, length_pad_to}
use Rattle.vocabulary.specs.declared.LayerIndex.{LayerIndex}
use Rattle.records.specs.declared.Record.{Record}
use Rattle.records.specs.declared.Record.TheVariants.{NoRecord, Hierarchy, Extension, Implied}
use Rattle.vocabulary.specs.declared.stream_types.Reading.TheVariants.{Edition2015}
use Rattle.hierarchy.specs.Hierarchy.{hierarchy_descriptor, hierarchy_from}
use Rattle.extension.specs.Extension.{extension_head, no_layer, extension_from}
use Rattle.loop_entries.specs.declared.Entry.{Entry}
use Rattle.entry_rows.specs.Rows.{head_of, list_of, tail_of, row_of, fields_in, list_in, layer_of, entry_in, rows_of}

pub head_length : (stream_type pid : ℕ) («record» : Record) → length (head_of stream_type pid «record») ≡ 16
unfolding head_of
head_length stream_type pid «record» = refl

list_short : («record» : Record) (layers : List LayerIndex) → length (list_of «record» layers) ≤ 64
list_short NoRecord layers = omega arith
list_short (Hierarchy h) layers = omega arith
list_short Implied layers = omega arith
list_short (Extension x) layers = simp (length-map, length-take) (omega arith)

tail_length : («record» : Record) (layers : List LayerIndex) → length (tail_of «record» layers) ≡ 64
unfolding tail_of
tail_length «record» layers = length_pad_to 64 0 (list_of «record» layers) (list_short «record» layers)

pub row_length : (entry : Entry) → length (row_of entry) ≡ 80
row_length e =
    length-append (head_of e.stream_type e.pid e.«record») (tail_of e.«record» e.embedded)
    ∙ ap₂ ◌+◌ (head_length e.stream_type e.pid e.«record») (tail_length e.«record» e.embedded)

pub rows_length : (entries : List Entry) → length (rows_of entries) ≡ length entries * 80
rows_length [] = refl
rows_length (e ∷ entries) =
    length-append (row_of e) (rows_of entries) ∙ omega (arith, row_length e, rows_length entries)

-- the entry of a row, for each kind of record
module _ (row : List ℕ) where
  pub hierarchy_entry : get_or row 2 0 ≡ 1
      → record { stream_type = get_or row 0 0; pid = get_or row 1 0; «record» = Hierarchy (hierarchy_from (by_names (hierarchy_descriptor Edition2015) (fields_in (hierarchy_descriptor Edition2015) row))); embedded = pad_to 63 no_layer [] }
      ≡ entry_in row
  unfolding entry_in
  hierarchy_entry e = rw e

  pub extension_entry : get_or row 2 0 ≡ 2
      → record { stream_type = get_or row 0 0; pid = get_or row 1 0; «record» = Extension (extension_from (by_names extension_head (fields_in extension_head row))); embedded = pad_to 63 no_layer (map layer_of (list_in row)) }
      ≡ entry_in row
  unfolding entry_in
  extension_entry e = rw e

  pub no_record_entry : get_or row 2 0 ≡ 0
      → record { stream_type = get_or row 0 0; pid = get_or row 1 0; «record» = NoRecord; embedded = pad_to 63 no_layer [] } ≡ entry_in row
  unfolding entry_in
  no_record_entry e = rw e

  pub implied_entry : get_or row 2 0 ≡ 3
      → record { stream_type = get_or row 0 0; pid = get_or row 1 0; «record» = Implied; embedded = pad_to 63 no_layer [] } ≡ entry_in row
  unfolding entry_in
  implied_entry e = rw e
