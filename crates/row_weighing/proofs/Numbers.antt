-- The entry of a row, as far as it is judged and sized, from the row's numbers.
-- Assumes nothing.
use Prim.Native.Nat.{ℕ, zero, suc, ◌+◌, ◌≤◌}
use mathlib.Core.Path.{◌≡◌, refl, sym, ◌∙◌, ap}
use mathlib.Core.Logic.{◌≢◌}
use mathlib.Core.Bool.{Bool, true, false}
use mathlib.Core.List.{List, [], ◌∷◌, map}
use native.Mathlib.Omega.{arith}
use lib.ListN.{length, get_or, drop, length-drop, length-map}
use lib.Seq.{length-take-le}
use Rattle.combinators.specs.Lists.{first_true}
use Rattle.combinators.specs.Padding.{pad_to, length_pad_to}
use Rattle.syntax.specs.Named.{by_names}
use Rattle.vocabulary.specs.declared.LayerIndex.{LayerIndex}
use Rattle.vocabulary.specs.declared.stream_types.Reading.TheVariants.{Edition2015}
use Rattle.hierarchy.specs.declared.HierarchyRecord.{HierarchyRecord}
use Rattle.hierarchy.specs.Hierarchy.{hierarchy_descriptor, hierarchy_from}
use Rattle.extension.specs.declared.ExtensionRecord.{ExtensionRecord}
use Rattle.extension.specs.Extension.{extension_head, no_layer, extension_from}
use Rattle.records.specs.declared.Record.TheVariants.{Hierarchy, Extension}
use Rattle.records.specs.Records.{plain, hierarchy_list}
use Rattle.records.proofs.Naming.{padded_list}
use Rattle.records.proofs.Sizes.{record_size_lem}
use Rattle.judging.specs.Judging.{wrong_list, wrong_embedded}
use Rattle.loop_entries.specs.declared.Entry.{Entry}
use Rattle.loop_outlines.specs.declared.Outline.{Outline}
use Rattle.loop_outlines.specs.Outlines.{outline_of}
use Rattle.loop_faults.specs.Outlined.{tests}
use Rattle.loop_writer.specs.Layout.{entry_bytes, too_wide}
use Rattle.loop_writer.specs.Verdict.{stream_for}
use Rattle.loop_writer.proofs.Entries.{record_fit}
use Rattle.entry_rows.specs.Rows.{fields_in, list_in, layer_of, row_too_wide, entry_in}
use Rattle.entry_rows.proofs.Laws.{hierarchy_entry, extension_entry, no_record_entry, implied_entry}
use Rattle.entry_rows.proofs.Judged.{kind_fine, extension_fine}
use Rattle.entry_rows.proofs.Fits.{entry_fits}
use Rattle.entry_rows.proofs.Widths.{row_bounds}

plain_layers : (l : List ℕ) → map plain (map layer_of l) ≡ l
plain_layers [] = refl
plain_layers (n ∷ l) = ap (λ (rest : List ℕ). n ∷ rest) (plain_layers l)

pub entry_type : (row : List ℕ) → (entry_in row).stream_type ≡ get_or row 0 0
unfolding entry_in
entry_type row = refl

-- the extension of a row, and its layers in their array
abbrev pub extension_of : List ℕ → ExtensionRecord
extension_of row = extension_from (by_names extension_head (fields_in extension_head row))

abbrev pub layers_of : List ℕ → List LayerIndex
layers_of row = pad_to 63 no_layer (map layer_of (list_in row))

module _ (row : List ℕ) (long : 80 ≤ length row) (few : get_or row 15 0 ≤ 63) where
  pub list_length : length (list_in row) ≡ get_or row 15 0
  list_length = length-take-le (get_or row 15 0) (drop 16 row) (omega (arith, length-drop 16 row))

  -- what is judged of an extension's list, at the row's own numbers
  pub listed_wrong : (t : ℕ) → wrong_list (get_or row 8 0) (list_in row) ≡ wrong_embedded t (Extension (extension_of row)) (layers_of row)
  listed_wrong t =
      sym
      (ap (λ (l : List LayerIndex). wrong_list (get_or row 8 0) (map plain l))
      (padded_list (map layer_of (list_in row)) (get_or row 15 0) (length-map (list_in row) layer_of ∙ list_length))
      ∙ ap (wrong_list (get_or row 8 0)) (plain_layers (list_in row)))

module _ (row : List ℕ) (fine : row_too_wide row ≡ false) where
  pub extension_size : 80 ≤ length row → get_or row 2 0 ≡ 2 → 14 + get_or row 15 0 ≡ length (entry_bytes (entry_in row))
  extension_size long two =
      let b = row_bounds extension_head row (extension_fine row fine two) in
      let few : get_or row 15 0 ≤ 63 = omega arith in
      let counted = list_length row long few in
      let is = extension_entry row two in
      let entry : Entry = record { stream_type = get_or row 0 0; pid = get_or row 1 0; «record» = Extension (extension_of row); embedded = layers_of row } in
      let room : length (layers_of row) ≡ 63 = length_pad_to 63 no_layer (map layer_of (list_in row)) (omega (arith, length-map (list_in row) layer_of)) in
      let size = record_size_lem (Extension (extension_of row)) (layers_of row) room (record_fit entry (ap too_wide is ∙ entry_fits row fine)) in
      let whole : 14 + get_or row 15 0 ≡ length (entry_bytes entry) = omega (arith, size) in
      whole ∙ ap (λ (e : Entry). length (entry_bytes e)) is

  -- no record, or an implied layer: the head alone
  pub fieldless_size : get_or row 2 0 ≢ 1 → get_or row 2 0 ≢ 2 → 5 ≡ length (entry_bytes (entry_in row))
  fieldless_size one two = go (get_or row 2 0) refl (kind_fine row fine)
    where
      go : (kind : ℕ) → get_or row 2 0 ≡ kind → kind ≤ 3 → 5 ≡ length (entry_bytes (entry_in row))
      go zero e h = ap (λ (x : Entry). length (entry_bytes x)) (no_record_entry row e)
      go (suc zero) e h = absurd (one e)
      go (suc (suc zero)) e h = absurd (two e)
      go (suc (suc (suc zero))) e h = ap (λ (x : Entry). length (entry_bytes x)) (implied_entry row e)
      go (suc (suc (suc (suc kind)))) e h = absurd (omega arith)

-- A hierarchy descriptor that is judged with no outline made of it.
module _ (row : List ℕ) where
  abbrev pub hierarchy_in : HierarchyRecord
  hierarchy_in = hierarchy_from (by_names (hierarchy_descriptor Edition2015) (fields_in (hierarchy_descriptor Edition2015) row))

  abbrev pub outline_with : HierarchyRecord → Outline
  outline_with h =
      record {
        fits = true;
        stream_type = get_or row 0 0;
        pid = get_or row 1 0;
        wrong_length = false;
        second_record = false;
        «record» = Hierarchy h;
        wrong_embedded = wrong_list (plain h.layer_index) (map plain (hierarchy_list h));
      }

  pub hierarchy_tests : get_or row 2 0 ≡ 1 → (given seen held : Bool) (h : HierarchyRecord) → h ≡ hierarchy_in
      → first_true (tests given seen held (outline_with h)) ≡ first_true (tests given seen held (outline_of (stream_for (entry_in row))))
  hierarchy_tests one given seen held h made =
      ap (λ (x : HierarchyRecord). first_true (tests given seen held (outline_with x))) made
      ∙ ap (λ (e : Entry). first_true (tests given seen held (outline_of (stream_for e)))) (hierarchy_entry row one)
