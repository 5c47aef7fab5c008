-- The bytes of a row's entry from the row's numbers, kind by kind.
-- Assumes nothing.
use Prim.Native.Nat.{ℕ, zero, suc, ◌+◌, ◌*◌, ◌/◌, ◌%◌, ◌≤◌, ◌<◌}
use mathlib.Core.Path.{◌≡◌, refl, sym, ◌∙◌, ap, ap₂}
use mathlib.Core.Logic.{◌≢◌}
use mathlib.Core.Bool.{false}
use mathlib.Core.List.{List, [], ◌∷◌, ◌++◌, map}
use native.Mathlib.Omega.{arith}
use lib.ListN.{length, get_or, take, drop, length-drop, length-map}
use lib.Seq.{length-take-le}
use Rattle.combinators.specs.Bools.{neither_left, neither_right}
use Rattle.combinators.specs.Lists.{any, gather}
use Rattle.combinators.specs.Padding.{pad_to, length_pad_to}
use Rattle.syntax.specs.Table.{write_table}
use Rattle.syntax.specs.Named.{by_names}
use Rattle.syntax.specs.Filled.{bytes_in}
use Rattle.syntax.proofs.Equations.{each}
use Rattle.vocabulary.specs.declared.LayerIndex.{LayerIndex}
use Rattle.vocabulary.specs.declared.stream_types.Reading.TheVariants.{Edition2015}
use Rattle.descriptor_heads.specs.Head.{head_table}
use Rattle.hierarchy.specs.Hierarchy.{hierarchy_descriptor}
use Rattle.extension.specs.declared.ExtensionRecord.{ExtensionRecord}
use Rattle.extension.specs.Extension.{extension_head, no_layer, extension_from, extension_fields, layer_table}
use Rattle.records.specs.declared.Record.TheVariants.{Extension}
use Rattle.records.specs.Records.{record_tables}
use Rattle.records.proofs.Naming.{padded_list}
use Rattle.records.proofs.Sizes.{record_size_lem}
use Rattle.loop_entries.specs.declared.Entry.{Entry}
use Rattle.loop_writer.specs.Layout.{entry_head_table, entry_bytes, too_wide}
use Rattle.loop_writer.proofs.Entries.{head_written, record_fit}
use Rattle.entry_rows.specs.Rows.{fields_in, list_in, layer_of, layer_too_wide, row_too_wide, entry_in}
use Rattle.entry_rows.proofs.Laws.{hierarchy_entry, extension_entry, no_record_entry, implied_entry}
use Rattle.entry_rows.proofs.Judged.{kind_fine, type_bound, pid_bound, hierarchy_fine, extension_fine, list_fine}
use Rattle.entry_rows.proofs.Fits.{entry_fits}
use Rattle.entry_rows.proofs.RoundTrips.{hierarchy_there, extension_there}
use Rattle.entry_rows.proofs.Widths.{row_bounds, layer_bound}

module _ (row : List ℕ) (fine : row_too_wide row ≡ false) where
  -- no record, or an implied layer: the head alone
  pub fieldless_row : get_or row 2 0 ≢ 1 → get_or row 2 0 ≢ 2 → bytes_in (entry_head_table (get_or row 0 0) (get_or row 1 0) 0) ≡ entry_bytes (entry_in row)
  fieldless_row one two = go (get_or row 2 0) refl (kind_fine row fine)
    where
      go : (kind : ℕ) → get_or row 2 0 ≡ kind → kind ≤ 3 → bytes_in (entry_head_table (get_or row 0 0) (get_or row 1 0) 0) ≡ entry_bytes (entry_in row)
      go zero e h = ap entry_bytes (no_record_entry row e)
      go (suc zero) e h = absurd (one e)
      go (suc (suc zero)) e h = absurd (two e)
      go (suc (suc (suc zero))) e h = ap entry_bytes (implied_entry row e)
      go (suc (suc (suc (suc kind)))) e h = absurd (omega arith)

  hierarchy_payload : get_or row 2 0 ≡ 1
      → (get_or row 3 0 * 128 + get_or row 4 0 * 64 + get_or row 5 0 * 32 + get_or row 6 0 * 16 + get_or row 7 0)
      ∷ (192 + get_or row 8 0)
      ∷ (get_or row 9 0 * 128 + 64 + get_or row 10 0)
      ∷ (192 + get_or row 11 0)
      ∷ []
      ≡ write_table (hierarchy_descriptor Edition2015) (fields_in (hierarchy_descriptor Edition2015) row)
  hierarchy_payload one = let b = row_bounds (hierarchy_descriptor Edition2015) row (hierarchy_fine row fine one) in each (omega arith)

  pub hierarchy_row : get_or row 2 0 ≡ 1
      → get_or row 0 0
      ∷ (224 + get_or row 1 0 / 256)
      ∷ (get_or row 1 0 % 256)
      ∷ 240
      ∷ 6
      ∷ 4
      ∷ 4
      ∷ (get_or row 3 0 * 128 + get_or row 4 0 * 64 + get_or row 5 0 * 32 + get_or row 6 0 * 16 + get_or row 7 0)
      ∷ (192 + get_or row 8 0)
      ∷ (get_or row 9 0 * 128 + 64 + get_or row 10 0)
      ∷ (192 + get_or row 11 0)
      ∷ []
      ≡ entry_bytes (entry_in row)
  hierarchy_row one =
      ap₂ (λ (head payload : List ℕ). head ++ 4 ∷ 4 ∷ (payload ++ []))
      (head_written (get_or row 0 0) (get_or row 1 0) 6 (type_bound row fine) (pid_bound row fine) (omega arith))
      (hierarchy_payload one
      ∙ ap (write_table (hierarchy_descriptor Edition2015)) (sym (hierarchy_there row (row_bounds (hierarchy_descriptor Edition2015) row (hierarchy_fine row fine one)))))
      ∙ ap entry_bytes (hierarchy_entry row one)

  -- one with an extension, as far as its list
  abbrev pub extension_front : List ℕ
  extension_front =
      bytes_in (entry_head_table (get_or row 0 0) (get_or row 1 0) (9 + get_or row 15 0))
      ++ bytes_in (head_table 63 (7 + get_or row 15 0))
      ++ write_table extension_head (fields_in extension_head row)

  pub extension_front_lem : get_or row 2 0 ≡ 2
      → get_or row 0 0
      ∷ (224 + get_or row 1 0 / 256)
      ∷ (get_or row 1 0 % 256)
      ∷ 240
      ∷ (9 + get_or row 15 0)
      ∷ 63
      ∷ (7 + get_or row 15 0)
      ∷ 6
      ∷ (get_or row 12 0 / 256)
      ∷ (get_or row 12 0 % 256)
      ∷ (get_or row 8 0 * 4 + get_or row 13 0 / 2)
      ∷ (get_or row 13 0 % 2 * 128 + get_or row 14 0 * 2 + get_or row 9 0)
      ∷ (192 + get_or row 15 0)
      ∷ (192 + get_or row 11 0)
      ∷ []
      ≡ extension_front
  extension_front_lem two =
      let b = row_bounds extension_head row (extension_fine row fine two) in
      let t = type_bound row fine in
      let p = pid_bound row fine in
      let head : get_or row 0 0 ∷ (224 + get_or row 1 0 / 256) ∷ (get_or row 1 0 % 256) ∷ 240 ∷ (9 + get_or row 15 0) ∷ [] ≡ bytes_in (entry_head_table (get_or row 0 0) (get_or row 1 0) (9 + get_or row 15 0)) =
      each (omega arith) in
      let tag : 63 ∷ (7 + get_or row 15 0) ∷ [] ≡ bytes_in (head_table 63 (7 + get_or row 15 0)) = each (omega arith) in
      let payload : 6 ∷ (get_or row 12 0 / 256) ∷ (get_or row 12 0 % 256) ∷ (get_or row 8 0 * 4 + get_or row 13 0 / 2) ∷ (get_or row 13 0 % 2 * 128 + get_or row 14 0 * 2 + get_or row 9 0) ∷ (192 + get_or row 15 0) ∷ (192 + get_or row 11 0) ∷ [] ≡ write_table extension_head (fields_in extension_head row) =
      each (omega arith) in
      ap₂ (λ (a bc : List ℕ). a ++ bc) head (ap₂ (λ (x y : List ℕ). x ++ y) tag payload)

-- its list
layer_bytes : (l : List ℕ) → any layer_too_wide l ≡ false → map (λ n. 192 + n) l ≡ gather bytes_in (map layer_table (map layer_of l))
layer_bytes [] e = refl
layer_bytes (n ∷ l) e =
    let small : n < 64 = layer_bound n (neither_left (layer_too_wide n) (any layer_too_wide l) e) in
    let first : (192 + n) ∷ [] ≡ bytes_in (layer_table (layer_of n)) = each (omega arith) in
    ap₂ (λ (a b : List ℕ). a ++ b) first (layer_bytes l (neither_right (layer_too_wide n) (any layer_too_wide l) e))

module _ (row : List ℕ) (long : 80 ≤ length row) (fine : row_too_wide row ≡ false) (two : get_or row 2 0 ≡ 2) where
  abbrev extension : ExtensionRecord
  extension = extension_from (by_names extension_head (fields_in extension_head row))

  abbrev layers : List LayerIndex
  layers = pad_to 63 no_layer (map layer_of (list_in row))

  abbrev entry : Entry
  entry = record { stream_type = get_or row 0 0; pid = get_or row 1 0; «record» = Extension extension; embedded = layers }

  few : get_or row 15 0 ≤ 63
  few = let b = row_bounds extension_head row (extension_fine row fine two) in omega arith

  pub list_length : length (list_in row) ≡ get_or row 15 0
  list_length = length-take-le (get_or row 15 0) (drop 16 row) (omega (arith, length-drop 16 row, few))

  listed : take (get_or row 15 0) layers ≡ map layer_of (list_in row)
  listed = padded_list (map layer_of (list_in row)) (get_or row 15 0) (length-map (list_in row) layer_of ∙ list_length)

  size : length (gather bytes_in (record_tables (Extension extension) layers)) ≡ 9 + get_or row 15 0
  size =
      record_size_lem (Extension extension) layers (length_pad_to 63 no_layer (map layer_of (list_in row)) (omega (arith, length-map (list_in row) layer_of, list_length, few)))
      (record_fit entry (ap too_wide (extension_entry row two) ∙ entry_fits row fine))

  pub extension_row : extension_front row fine ++ map (λ n. 192 + n) (list_in row) ≡ entry_bytes (entry_in row)
  extension_row =
      let t : ℕ = get_or row 0 0 in
      let pid : ℕ = get_or row 1 0 in
      let n : ℕ = get_or row 15 0 in
      ap (λ (fields : List ℕ). (bytes_in (entry_head_table t pid (9 + n)) ++ bytes_in (head_table 63 (7 + n)) ++ write_table extension_head fields) ++ map (λ k. 192 + k) (list_in row))
      (sym (extension_there row (row_bounds extension_head row (extension_fine row fine two))))
      ∙ ap (λ (list : List ℕ). (bytes_in (entry_head_table t pid (9 + n)) ++ bytes_in (head_table 63 (7 + n)) ++ write_table extension_head (extension_fields extension)) ++ list)
      (layer_bytes (list_in row) (list_fine row fine two) ∙ ap (λ (l : List LayerIndex). gather bytes_in (map layer_table l)) (sym listed))
      ∙ ap (λ (k : ℕ). (bytes_in (entry_head_table t pid k) ++ bytes_in (head_table 63 (7 + n)) ++ write_table extension_head (extension_fields extension)) ++ gather bytes_in (map layer_table (take n layers)))
      (sym size)
      ∙ ap entry_bytes (extension_entry row two)
