-- 25 IS SETTLED BY THE ROWS: in the entry of a row that has no value too wide the loop writer finds none either.
-- Assumes nothing.
use Prim.Native.Nat.{ℕ, zero, suc, ◌+◌, ◌-◌, ◌≤◌, ◌<◌, min}
use mathlib.Core.Path.{◌≡◌, refl, sym, ◌∙◌, ap, ap₂}
use mathlib.Core.Bool.{Bool, false, not, ◌||◌, or-false}
use mathlib.Core.List.{List, [], ◌∷◌, map}
use native.Mathlib.Omega.{arith}
use borrow.Author.Tests.{lt-ltb, not-false}
use lib.ListN.{length, get_or, take, replicate}
use Rattle.syntax.specs.Named.{by_names}
use Rattle.combinators.specs.Below.{none_at}
use Rattle.combinators.specs.Bools.{neither_left, neither_right}
use Rattle.combinators.specs.Lists.{any, any_append, any_map}
use Rattle.combinators.specs.Padding.{pad_to}
use Rattle.syntax.specs.Table.{fits}
use Rattle.syntax.proofs.Laws.{fits_fit}
use Rattle.syntax.proofs.Equations.{bounds}
use Rattle.vocabulary.specs.declared.LayerIndex.{LayerIndex}
use Rattle.vocabulary.specs.declared.stream_types.Reading.TheVariants.{Edition2015}
use Rattle.records.specs.declared.Record.{Record}
use Rattle.records.specs.declared.Record.TheVariants.{NoRecord, Hierarchy, Extension, Implied}
use Rattle.hierarchy.specs.Hierarchy.{hierarchy_descriptor, hierarchy_from}
use Rattle.extension.specs.Extension.{extension_head, no_layer, extension_from, layer_table}
use Rattle.loop_entries.specs.declared.Entry.{Entry}
use Rattle.loop_entries.specs.Entries.{blank_entry}
use Rattle.syntax.specs.Filled.{too_wide_in}
use Rattle.records.specs.Records.{record_tables}
use Rattle.loop_writer.specs.Layout.{info_bytes, too_wide}
use Rattle.records.proofs.Sizes.{info_short}
use Rattle.entry_rows.specs.Rows.{kind_in, count_in, fields_in, list_in, layer_too_wide, row_too_wide, layer_of, entry_in, row_count, row_at, some_too_wide, entries_below, entries_in}
use Rattle.entry_rows.proofs.Laws.{hierarchy_entry, extension_entry, no_record_entry, implied_entry}
use Rattle.entry_rows.proofs.Judged.{kind_fine, type_bound, pid_bound, hierarchy_fine, extension_fine, list_fine}
use Rattle.entry_rows.proofs.RoundTrips.{hierarchy_there, extension_there}

-- a list none of whose layers is too wide: nor is one of its first, with blanks behind it or not
blanks_fine : (n : ℕ) → any (λ x. too_wide_in (layer_table x)) (replicate n no_layer) ≡ false
blanks_fine zero = refl
blanks_fine (suc n) = blanks_fine n

first_fine : {A : Type 0} (test : A → Bool) (n : ℕ) (l : List A) → any test l ≡ false → any test (take n l) ≡ false
first_fine test zero l e = refl
first_fine test (suc n) [] e = refl
first_fine test (suc n) (x ∷ l) e =
    ap₂ (λ (a b : Bool). a || b) (neither_left (test x) (any test l) e) (first_fine test n l (neither_right (test x) (any test l) e))

array_fine : (n : ℕ) (list : List ℕ) → any layer_too_wide list ≡ false
    → any too_wide_in (map layer_table (take n (pad_to 63 no_layer (map layer_of list)))) ≡ false
array_fine n list e =
    any_map too_wide_in layer_table (take n (pad_to 63 no_layer (map layer_of list)))
    ∙ first_fine (λ x. too_wide_in (layer_table x)) n (pad_to 63 no_layer (map layer_of list))
    (any_append (λ x. too_wide_in (layer_table x)) (map layer_of list) (replicate (63 - length (map layer_of list)) no_layer)
    ∙ ap₂ (λ (a b : Bool). a || b) (any_map (λ x. too_wide_in (layer_table x)) layer_of list ∙ e) (blanks_fine (63 - length (map layer_of list))))

-- an entry whose own fields and whose record fit
whole_fine : (entry : Entry) → entry.stream_type < 256 → entry.pid < 8192
    → any too_wide_in (record_tables entry.«record» entry.embedded) ≡ false → too_wide entry ≡ false
whole_fine entry small pid p =
    let short : length (info_bytes entry) < 4096 = omega (arith, info_short entry.«record» entry.embedded p) in
    rw (lt-ltb entry.stream_type 256 small, lt-ltb entry.pid 8192 pid, lt-ltb (length (info_bytes entry)) 4096 short) p

module _ (row : List ℕ) (fine : row_too_wide row ≡ false) where
  abbrev with : Record → List LayerIndex → Entry
  with «record» layers = record { stream_type = get_or row 0 0; pid = get_or row 1 0; «record» = «record»; embedded = layers }

  no_record_fits : kind_in row ≡ 0 → too_wide (entry_in row) ≡ false
  no_record_fits e = ap too_wide (sym (no_record_entry row e)) ∙ whole_fine (with NoRecord (pad_to 63 no_layer [])) (type_bound row fine) (pid_bound row fine) refl

  implied_fits : kind_in row ≡ 3 → too_wide (entry_in row) ≡ false
  implied_fits e = ap too_wide (sym (implied_entry row e)) ∙ whole_fine (with Implied (pad_to 63 no_layer [])) (type_bound row fine) (pid_bound row fine) refl

  hierarchy_fits : kind_in row ≡ 1 → too_wide (entry_in row) ≡ false
  hierarchy_fits e =
      let in_bounds = bounds (fits_fit (hierarchy_descriptor Edition2015) (fields_in (hierarchy_descriptor Edition2015) row) (not-false _ (hierarchy_fine row fine e))) in
      ap too_wide (sym (hierarchy_entry row e))
      ∙ whole_fine (with (Hierarchy (hierarchy_from (by_names (hierarchy_descriptor Edition2015) (fields_in (hierarchy_descriptor Edition2015) row)))) (pad_to 63 no_layer [])) (type_bound row fine) (pid_bound row fine)
      (or-false _ ∙ ap (λ (l : List ℕ). not (fits (hierarchy_descriptor Edition2015) l)) (hierarchy_there row in_bounds) ∙ hierarchy_fine row fine e)

  extension_fits : kind_in row ≡ 2 → too_wide (entry_in row) ≡ false
  extension_fits e =
      let in_bounds = bounds (fits_fit extension_head (fields_in extension_head row) (not-false _ (extension_fine row fine e))) in
      let count : 7 + count_in row < 256 = omega arith in
      ap too_wide (sym (extension_entry row e))
      ∙ whole_fine (with (Extension (extension_from (by_names extension_head (fields_in extension_head row)))) (pad_to 63 no_layer (map layer_of (list_in row)))) (type_bound row fine) (pid_bound row fine)
      (rw (lt-ltb (7 + count_in row) 256 count)
      (ap₂ (λ (a b : Bool). a || b)
      (ap (λ (l : List ℕ). not (fits extension_head l)) (extension_there row in_bounds) ∙ extension_fine row fine e)
      (array_fine (count_in row) (list_in row) (list_fine row fine e))))

  -- THE LOOP WRITER FINDS NOTHING TOO WIDE in the entry of such a row.
  pub entry_fits : too_wide (entry_in row) ≡ false
  entry_fits = go (kind_in row) refl (kind_fine row fine)
    where
      go : (kind : ℕ) → kind_in row ≡ kind → kind ≤ 3 → too_wide (entry_in row) ≡ false
      go zero e h = no_record_fits e
      go (suc zero) e h = hierarchy_fits e
      go (suc (suc zero)) e h = extension_fits e
      go (suc (suc (suc zero))) e h = implied_fits e
      go (suc (suc (suc (suc kind)))) e h = absurd (omega arith)

-- The same of all entries in their array, so that 25 is the answer exactly where some row has a value that is too wide.
below_fine : (numbers : List ℕ) (n : ℕ) → ((k : ℕ) → k < n → row_too_wide (row_at numbers k) ≡ false) → any too_wide (entries_below numbers n) ≡ false
below_fine numbers zero f = refl
below_fine numbers (suc n) f =
    any_append too_wide (entries_below numbers n) (entry_in (row_at numbers n) ∷ [])
    ∙ ap₂ (λ (a b : Bool). a || b) (below_fine numbers n (λ k h. f k (omega arith)))
    (or-false (too_wide (entry_in (row_at numbers n))) ∙ entry_fits (row_at numbers n) (f n (omega arith)))

blank_entries_fine : (n : ℕ) → any too_wide (replicate n blank_entry) ≡ false
blank_entries_fine zero = refl
blank_entries_fine (suc n) = blank_entries_fine n

pub none_too_wide : (numbers : List ℕ) → some_too_wide numbers ≡ false → any too_wide (take (row_count numbers) (entries_in numbers)) ≡ false
none_too_wide numbers e =
    let entries : List Entry = entries_below numbers (min (row_count numbers) 201) in
    first_fine too_wide (row_count numbers) (entries_in numbers)
    (any_append too_wide entries (replicate (201 - length entries) blank_entry)
    ∙ ap₂ (λ (a b : Bool). a || b)
    (below_fine numbers (min (row_count numbers) 201) (λ k h. none_at (λ j. row_too_wide (row_at numbers j)) (row_count numbers) e k (omega arith)))
    (blank_entries_fine (201 - length entries)))
