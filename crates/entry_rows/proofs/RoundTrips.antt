-- ROUND TRIPS. The entry of an entry's row is the entry again, and the row of a row's entry is the row again, each in the other's own shape: an entry whose
-- array has blanks beyond its list, a row with nothing in it but the fields of its entry, none too wide.
-- Assumes nothing.
use Prim.Native.Nat.{ℕ, zero, suc, ◌-◌, ◌≤◌, min}
use mathlib.Core.Path.{◌≡◌, refl, sym, ◌∙◌, ap, ap₂, subst}
use mathlib.Core.Bool.{false, cond}
use mathlib.Core.List.{List, [], ◌∷◌, ◌++◌, map}
use native.Mathlib.Omega.{arith}
use lib.Dec.{eqb}
use lib.ListN.{length, get_or, take, drop, replicate, length-map, length-take, take-append-drop}
use lib.Seq.{take_at}
use Rattle.syntax.specs.Named.{by_names}
use Rattle.combinators.specs.Padding.{pad_to, length_pad_to}
use Rattle.syntax.proofs.Laws.{fits_fit}
use Rattle.syntax.proofs.Equations.{Bounds, bounds}
use Rattle.vocabulary.specs.declared.LayerIndex.{LayerIndex}
use Rattle.vocabulary.specs.declared.stream_types.Reading.TheVariants.{Edition2015}
use Rattle.hierarchy.specs.declared.HierarchyRecord.{HierarchyRecord}
use Rattle.extension.specs.declared.ExtensionRecord.{ExtensionRecord}
use Rattle.records.specs.declared.Record.{Record}
use Rattle.records.specs.declared.Record.TheVariants.{NoRecord, Hierarchy, Extension, Implied}
use Rattle.hierarchy.specs.Hierarchy.{hierarchy_descriptor, hierarchy_from, hierarchy_fields}
use Rattle.extension.specs.Extension.{extension_head, no_layer, extension_from, extension_fields}
use Rattle.loop_entries.specs.declared.Entry.{Entry}
use Rattle.descriptor_heads.proofs.Bits.{bit_there}
use Rattle.hierarchy.proofs.Payloads.{hierarchy_fields_lem}
use Rattle.extension.proofs.Payloads.{extension_fields_lem}
use Rattle.entry_rows.specs.Names.{names_of, picked}
use Rattle.entry_rows.specs.Rows.{row_names, entry_table, layer_number, head_of, tail_of, row_of, kind_in, count_in, fields_in, list_in, row_too_wide, layer_of, entry_in}
use Rattle.entry_rows.proofs.Judged.{kind_fine, within_tables}
use Rattle.entry_rows.proofs.Laws.{hierarchy_entry, extension_entry, no_record_entry, implied_entry}

-- ---- from an entry to its row and back

-- the array beside a record: the layers that the record counts, and blanks
abbrev pub OwnList : Record → List LayerIndex → Type 0
OwnList NoRecord array = array ≡ pad_to 63 no_layer []
OwnList (Hierarchy h) array = array ≡ pad_to 63 no_layer []
OwnList Implied array = array ≡ pad_to 63 no_layer []
OwnList (Extension x) array =
    (layers : List LayerIndex) × (length layers ≡ x.num_embedded_layers) × (x.num_embedded_layers ≤ 63) × (array ≡ pad_to 63 no_layer layers)

layers_back : (layers : List LayerIndex) → map layer_of (map layer_number layers) ≡ layers
layers_back [] = refl
layers_back (index ∷ layers) = ap (λ (l : List LayerIndex). index ∷ l) (layers_back layers)

-- the layers that a list counts, out of its array, into a row's room, and out of that
list_back : (count : ℕ) (layers : List LayerIndex) → length layers ≡ count → count ≤ 63
    → take count (pad_to 64 0 (map layer_number (take (min count 63) (pad_to 63 no_layer layers)))) ≡ map layer_number layers
list_back count layers long h =
    let all : min count 63 ≡ count = omega arith in
    ap (λ (n : ℕ). take count (pad_to 64 0 (map layer_number (take n (pad_to 63 no_layer layers))))) all
    ∙ ap (λ (l : List LayerIndex). take count (pad_to 64 0 (map layer_number l))) (take_at layers (replicate (63 - length layers) no_layer) count long)
    ∙ take_at (map layer_number layers) (replicate (64 - length (map layer_number layers)) 0) count (length-map layers layer_number ∙ long)

abbrev entry_with : ℕ → ℕ → Record → List LayerIndex → Entry
entry_with stream_type pid «record» array = record { stream_type = stream_type; pid = pid; «record» = «record»; embedded = array }

again : (stream_type pid : ℕ) («record» : Record) (array : List LayerIndex) → OwnList «record» array
    → entry_in (row_of (entry_with stream_type pid «record» array)) ≡ entry_with stream_type pid «record» array
unfolding head_of tail_of entry_in
again stream_type pid NoRecord array own = ap (entry_with stream_type pid NoRecord) (sym own)
again stream_type pid Implied array own = ap (entry_with stream_type pid Implied) (sym own)
again stream_type pid (Hierarchy h) array own = ap₂ (λ (g : HierarchyRecord) (l : List LayerIndex). entry_with stream_type pid (Hierarchy g) l) (hierarchy_fields_lem h) (sym own)
again stream_type pid (Extension x) array own =
    ap₂ (λ (y : ExtensionRecord) (l : List LayerIndex). entry_with stream_type pid (Extension y) l) (extension_fields_lem x)
    (ap (λ (l : List LayerIndex). pad_to 63 no_layer (map layer_of (take x.num_embedded_layers (pad_to 64 0 (map layer_number (take (min x.num_embedded_layers 63) l)))))) own.3
    ∙ ap (λ (l : List ℕ). pad_to 63 no_layer (map layer_of l)) (list_back x.num_embedded_layers own.0 own.1 own.2)
    ∙ ap (pad_to 63 no_layer) (layers_back own.0)
    ∙ sym own.3)

-- THE ENTRY OF AN ENTRY'S ROW is the entry.
pub entry_again : (entry : Entry) → OwnList entry.«record» entry.embedded → entry_in (row_of entry) ≡ entry
entry_again e own = again e.stream_type e.pid e.«record» e.embedded own

-- ---- from a row to its entry and back

-- A row in the shape in which entries are laid out: the fields of its entry and 0 elsewhere, the embedded layers that it counts and 0 after them, and no
-- value that is too wide.
pub record OwnRow (row : List ℕ) : Type 0 where
  pub fitting : row_too_wide row ≡ false
  pub head : take 16 row ≡ picked row_names (names_of (entry_table (kind_in row))) (fields_in (entry_table (kind_in row)) row)
  pub tail : drop 16 row ≡ pad_to 64 0 (cond (eqb (kind_in row) 2) (list_in row) [])

pub hierarchy_there : (row : List ℕ) → Bounds (hierarchy_descriptor Edition2015) (fields_in (hierarchy_descriptor Edition2015) row)
    → hierarchy_fields (hierarchy_from (by_names (hierarchy_descriptor Edition2015) (fields_in (hierarchy_descriptor Edition2015) row))) ≡ fields_in (hierarchy_descriptor Edition2015) row
hierarchy_there row b =
    rw (bit_there (get_or row 3 0) b.0, bit_there (get_or row 4 0) b.1.0, bit_there (get_or row 5 0) b.1.1.0, bit_there (get_or row 6 0) b.1.1.1.0, bit_there (get_or row 9 0) b.1.1.1.1.1.1.0)

pub extension_there : (row : List ℕ) → Bounds extension_head (fields_in extension_head row)
    → extension_fields (extension_from (by_names extension_head (fields_in extension_head row))) ≡ fields_in extension_head row
extension_there row b = rw (bit_there (get_or row 9 0) b.1.1.1.1.0)

numbers_back : (list : List ℕ) → map layer_number (map layer_of list) ≡ list
numbers_back [] = refl
numbers_back (index ∷ list) = ap (λ (l : List ℕ). index ∷ l) (numbers_back list)

module _ (row : List ℕ) (own : OwnRow row) where
  parts : picked row_names (names_of (entry_table (kind_in row))) (fields_in (entry_table (kind_in row)) row) ++ pad_to 64 0 (cond (eqb (kind_in row) 2) (list_in row) []) ≡ row
  parts = ap₂ (λ (a b : List ℕ). a ++ b) (sym own.head) (sym own.tail) ∙ take-append-drop 16 row

  -- the same for a kind that is known
  parts_of : (kind : ℕ) → kind_in row ≡ kind
      → picked row_names (names_of (entry_table kind)) (fields_in (entry_table kind) row) ++ pad_to 64 0 (cond (eqb kind 2) (list_in row) []) ≡ row
  parts_of kind e =
      subst (λ (k : ℕ). picked row_names (names_of (entry_table k)) (fields_in (entry_table k) row) ++ pad_to 64 0 (cond (eqb k 2) (list_in row) []) ≡ row) e parts

  bounds_of : (kind : ℕ) → kind_in row ≡ kind → Bounds (entry_table kind) (fields_in (entry_table kind) row)
  bounds_of kind e =
      subst (λ (k : ℕ). Bounds (entry_table k) (fields_in (entry_table k) row)) e
      (bounds (fits_fit (entry_table (kind_in row)) (fields_in (entry_table (kind_in row)) row) (within_tables row own.fitting)))

  no_record_again : kind_in row ≡ 0 → row_of (entry_in row) ≡ row
  unfolding head_of tail_of
  no_record_again e =
      ap row_of (sym (no_record_entry row e))
      ∙ ap (λ (n : ℕ). picked row_names (names_of (entry_table 0)) (get_or row 0 0 ∷ get_or row 1 0 ∷ n ∷ []) ++ pad_to 64 0 []) (sym e)
      ∙ parts_of 0 e

  implied_again : kind_in row ≡ 3 → row_of (entry_in row) ≡ row
  unfolding head_of tail_of
  implied_again e =
      ap row_of (sym (implied_entry row e))
      ∙ ap (λ (n : ℕ). picked row_names (names_of (entry_table 3)) (get_or row 0 0 ∷ get_or row 1 0 ∷ n ∷ []) ++ pad_to 64 0 []) (sym e)
      ∙ parts_of 3 e

  hierarchy_again : kind_in row ≡ 1 → row_of (entry_in row) ≡ row
  unfolding head_of tail_of
  hierarchy_again e =
      let b = bounds_of 1 e in
      ap row_of (sym (hierarchy_entry row e))
      ∙ ap₂ (λ (n : ℕ) (l : List ℕ). picked row_names (names_of (entry_table 1)) (get_or row 0 0 ∷ get_or row 1 0 ∷ n ∷ l) ++ pad_to 64 0 []) (sym e) (hierarchy_there row b.1.1.1)
      ∙ parts_of 1 e

  -- a row's list out of its entry's array
  list_there : kind_in row ≡ 2 → count_in row ≤ 63
      → map layer_number (take (min (count_in row) 63) (pad_to 63 no_layer (map layer_of (list_in row)))) ≡ list_in row
  list_there e few =
      let tail : drop 16 row ≡ pad_to 64 0 (list_in row) =
      own.tail ∙ ap (λ (k : ℕ). pad_to 64 0 (cond (eqb k 2) (list_in row) [])) e in
      let short : length (list_in row) ≤ 64 = simp length-take (omega arith) in
      let room : length (drop 16 row) ≡ 64 = ap length tail ∙ length_pad_to 64 0 (list_in row) short in
      let long : length (map layer_of (list_in row)) ≡ min (count_in row) 63 =
      length-map (list_in row) layer_of ∙ length-take (count_in row) (drop 16 row) ∙ omega arith in
      ap (map layer_number) (take_at (map layer_of (list_in row)) (replicate (63 - length (map layer_of (list_in row))) no_layer) (min (count_in row) 63) long)
      ∙ numbers_back (list_in row)

  extension_again : kind_in row ≡ 2 → row_of (entry_in row) ≡ row
  unfolding head_of tail_of
  extension_again e =
      let b = bounds_of 2 e in
      let few : count_in row ≤ 63 = omega arith in
      ap row_of (sym (extension_entry row e))
      ∙ ap₂ (λ (n : ℕ) (l : List ℕ). picked row_names (names_of (entry_table 2)) (get_or row 0 0 ∷ get_or row 1 0 ∷ n ∷ l) ++ pad_to 64 0 (map layer_number (take (min (count_in row) 63) (pad_to 63 no_layer (map layer_of (list_in row)))))) (sym e) (extension_there row b.1.1.1)
      ∙ ap (λ (l : List ℕ). picked row_names (names_of (entry_table 2)) (fields_in (entry_table 2) row) ++ pad_to 64 0 l) (list_there e few)
      ∙ parts_of 2 e

  -- THE ROW OF A ROW'S ENTRY is the row.
  pub row_again_lem : row_of (entry_in row) ≡ row
  row_again_lem = go (kind_in row) refl (kind_fine row own.fitting)
    where
      go : (kind : ℕ) → kind_in row ≡ kind → kind ≤ 3 → row_of (entry_in row) ≡ row
      go zero e h = no_record_again e
      go (suc zero) e h = hierarchy_again e
      go (suc (suc zero)) e h = extension_again e
      go (suc (suc (suc zero))) e h = implied_again e
      go (suc (suc (suc (suc kind)))) e h = absurd (omega arith)
