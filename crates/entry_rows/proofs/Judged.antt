-- Whether a row has a value that is too wide, from the tests that the code makes in turn; and what follows where it has none.
-- Assumes nothing.
use Prim.Native.Nat.{ℕ, zero, suc, ◌≤◌, ◌<◌, ◌+◌, ◌-◌, ◌*◌}
use mathlib.Core.Path.{◌≡◌, refl, sym, ◌∙◌, ap}
use mathlib.Core.Logic.{◌≢◌}
use mathlib.Core.Bool.{Bool, true, false, ◌&&◌, ◌||◌, and-false, or-false}
use mathlib.Core.List.{List, [], ◌∷◌}
use native.Mathlib.Numerals.{add-one}
use native.Mathlib.Omega.{arith}
use borrow.Author.Tests.{not-false, lt-ltb, le-ltb, ltb-false, ne_eqb}
use lib.Dec.{eqb, ltb}
use lib.ListN.{length, get_or, take, drop, length-append}
use Rattle.combinators.specs.Bools.{neither_left, neither_right, either_left, either_right}
use Rattle.combinators.specs.Lists.{any}
use Rattle.syntax.specs.Table.{fits}
use Rattle.syntax.proofs.Laws.{fits_fit}
use Rattle.syntax.proofs.Equations.{bounds}
use Rattle.vocabulary.specs.declared.stream_types.Reading.TheVariants.{Edition2015}
use Rattle.hierarchy.specs.Hierarchy.{hierarchy_descriptor}
use Rattle.extension.specs.Extension.{extension_head}
use Rattle.entry_rows.specs.Rows.{kind_in, fields_in, list_in, entry_table, too_wide_for, layer_too_wide, row_too_wide, entry_in, row_at, entries_below}

module _ (row : List ℕ) where
  abbrev listed : Bool
  listed = eqb (kind_in row) 2 && any layer_too_wide (list_in row)

  pub kind_wide : 3 < get_or row 2 0 → true ≡ row_too_wide row
  unfolding row_too_wide
  kind_wide h = rw (lt-ltb 3 (get_or row 2 0) h)

  pub type_wide : 255 < get_or row 0 0 → true ≡ row_too_wide row
  unfolding row_too_wide
  type_wide h =
      sym (either_right (ltb 3 (kind_in row)) _ (either_left (too_wide_for (entry_table (kind_in row)) row) listed (rw (le-ltb (get_or row 0 0) 256 h))))

  pub pid_wide : 8191 < get_or row 1 0 → true ≡ row_too_wide row
  unfolding row_too_wide
  pid_wide h =
      sym (either_right (ltb 3 (kind_in row)) _
      (either_left (too_wide_for (entry_table (kind_in row)) row) listed (rw (le-ltb (get_or row 1 0) 8192 h, and-false (ltb (get_or row 0 0) 256)))))

  module _ (type-fine : get_or row 0 0 < 256) (pid-fine : get_or row 1 0 < 8192) where
    pub hierarchy_decides : get_or row 2 0 ≡ 1 → too_wide_for (hierarchy_descriptor Edition2015) row ≡ row_too_wide row
    unfolding row_too_wide
    hierarchy_decides e =
        rw (e, lt-ltb (get_or row 0 0) 256 type-fine, lt-ltb (get_or row 1 0) 8192 pid-fine)
        (sym (or-false (too_wide_for (hierarchy_descriptor Edition2015) row)))

    pub extension_decides : get_or row 2 0 ≡ 2 → too_wide_for extension_head row || any layer_too_wide (list_in row) ≡ row_too_wide row
    unfolding row_too_wide
    extension_decides e = rw (e, lt-ltb (get_or row 0 0) 256 type-fine, lt-ltb (get_or row 1 0) 8192 pid-fine)

    -- no record, or an implied layer
    pub fieldless_fine : get_or row 2 0 ≤ 3 → get_or row 2 0 ≢ 1 → get_or row 2 0 ≢ 2 → false ≡ row_too_wide row
    unfolding row_too_wide
    fieldless_fine h one two =
        let kind : ℕ = get_or row 2 0 in
        let two_bits : kind < 4 = omega arith in
        rw (
          ne_eqb kind 1 one,
          ne_eqb kind 2 two,
          le-ltb 3 kind h,
          lt-ltb kind 4 two_bits,
          lt-ltb (get_or row 0 0) 256 type-fine,
          lt-ltb (get_or row 1 0) 8192 pid-fine,
        )

  module _ (fine : row_too_wide row ≡ false) where
    pub within_tables : fits (entry_table (kind_in row)) (fields_in (entry_table (kind_in row)) row) ≡ true
    unfolding row_too_wide
    within_tables =
        not-false _ (neither_left (too_wide_for (entry_table (kind_in row)) row) listed (neither_right (ltb 3 (kind_in row)) _ fine))

    pub kind_fine : get_or row 2 0 ≤ 3
    unfolding row_too_wide
    kind_fine = ltb-false 3 (get_or row 2 0) (neither_left (ltb 3 (kind_in row)) (too_wide_for (entry_table (kind_in row)) row || listed) fine)

    pub type_bound : get_or row 0 0 < 256
    type_bound = (bounds (fits_fit (entry_table (kind_in row)) (fields_in (entry_table (kind_in row)) row) within_tables)).0

    pub pid_bound : get_or row 1 0 < 8192
    pid_bound = (bounds (fits_fit (entry_table (kind_in row)) (fields_in (entry_table (kind_in row)) row) within_tables)).1.0

    pub hierarchy_fine : get_or row 2 0 ≡ 1 → too_wide_for (hierarchy_descriptor Edition2015) row ≡ false
    hierarchy_fine e = hierarchy_decides type_bound pid_bound e ∙ fine

    pub extension_fine : get_or row 2 0 ≡ 2 → too_wide_for extension_head row ≡ false
    extension_fine e =
        neither_left (too_wide_for extension_head row) (any layer_too_wide (list_in row)) (extension_decides type_bound pid_bound e ∙ fine)

    pub list_fine : get_or row 2 0 ≡ 2 → any layer_too_wide (list_in row) ≡ false
    list_fine e =
        neither_right (too_wide_for extension_head row) (any layer_too_wide (list_in row)) (extension_decides type_bound pid_bound e ∙ fine)

-- a row as the code cuts it out
pub row_part : (numbers : List ℕ) (k : ℕ) → take (k * 80 + 80 - k * 80) (drop (k * 80) numbers) ≡ row_at numbers k
row_part numbers k = let e : k * 80 + 80 - k * 80 ≡ 80 = omega arith in ap (λ (n : ℕ). take n (drop (k * 80) numbers)) e

-- as many entries as rows
pub length_entries : (numbers : List ℕ) (n : ℕ) → length (entries_below numbers n) ≡ n
length_entries numbers zero = refl
length_entries numbers (suc n) =
    length-append (entries_below numbers n) (entry_in (row_at numbers n) ∷ []) ∙ ap (λ (k : ℕ). k + 1) (length_entries numbers n) ∙ add-one n
