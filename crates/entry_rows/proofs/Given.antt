-- The entries of rows as a list: the entry at a place, and that their array holds them all where there are at most 201.
-- Assumes nothing.
use Prim.Native.Nat.{ℕ, zero, suc, ◌-◌, ◌≤◌, ◌<◌, min}
use mathlib.Core.Path.{◌≡◌, sym, ◌∙◌, ap}
use mathlib.Core.Bool.{false}
use mathlib.Core.List.{List, [], ◌∷◌}
use native.Mathlib.Omega.{arith}
use native.Mathlib.Decide.{dec_lt}
use lib.ListN.{length, get_or, take, replicate, get_or-append}
use lib.Seq.{take_at, get_or_at}
use Rattle.combinators.specs.Below.{none_at}
use Rattle.loop_entries.specs.Entries.{blank_entry}
use Rattle.loop_writer.specs.Layout.{too_wide}
use Rattle.entry_rows.specs.Rows.{row_too_wide, entry_in, row_count, row_at, some_too_wide, entries_below, entries_in}
use Rattle.entry_rows.proofs.Judged.{length_entries}
use Rattle.entry_rows.proofs.Fits.{entry_fits}

module _ (numbers : List ℕ) where
  pub entry_at_lem : (n i : ℕ) → i < n → get_or (entries_below numbers n) i blank_entry ≡ entry_in (row_at numbers i)
  entry_at_lem zero i h = absurd (omega arith)
  entry_at_lem (suc n) i h = go (dec_lt i n) (λ l. entry_at_lem n i l)
    where
      go : Dec (i < n) → (i < n → get_or (entries_below numbers n) i blank_entry ≡ entry_in (row_at numbers i)) → get_or (entries_below numbers (suc n)) i blank_entry ≡ entry_in (row_at numbers i)
      go (yes l) before =
          get_or-append (entries_below numbers n) (entry_in (row_at numbers n) ∷ []) blank_entry i (omega (arith, length_entries numbers n)) ∙ before l
      go (no l) before =
          let last : n ≡ i = omega arith in
          get_or_at (entries_below numbers n) (entry_in (row_at numbers n)) [] blank_entry i (length_entries numbers n ∙ last)
          ∙ ap (λ (k : ℕ). entry_in (row_at numbers k)) last

  pub row_fine_lem : some_too_wide numbers ≡ false → (i : ℕ) → i < row_count numbers → row_too_wide (row_at numbers i) ≡ false
  row_fine_lem e i h = none_at (λ k. row_too_wide (row_at numbers k)) (row_count numbers) e i h

  pub entry_fine : some_too_wide numbers ≡ false → (i : ℕ) → i < row_count numbers → too_wide (entry_in (row_at numbers i)) ≡ false
  entry_fine e i h = entry_fits (row_at numbers i) (row_fine_lem e i h)

  pub all_given : row_count numbers ≤ 201 → entries_below numbers (row_count numbers) ≡ take (row_count numbers) (entries_in numbers)
  all_given few =
      let count : min (row_count numbers) 201 ≡ row_count numbers = omega arith in
      sym (take_at (entries_below numbers (min (row_count numbers) 201)) (replicate (201 - length (entries_below numbers (min (row_count numbers) 201))) blank_entry)
      (row_count numbers) (length_entries numbers (min (row_count numbers) 201) ∙ count)
      ∙ ap (entries_below numbers) count)
