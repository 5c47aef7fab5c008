-- One entry that is to be written: its head's bytes, what its tables hold where nothing is too wide, and when something is.
-- Assumes nothing.
use Prim.Native.Nat.{ℕ, ◌+◌, ◌/◌, ◌%◌, ◌≤◌, ◌<◌}
use mathlib.Core.Path.{◌≡◌, refl, sym}
use mathlib.Core.Bool.{Bool, true, false, and-false, or-true}
use mathlib.Core.List.{[], ◌∷◌}
use native.Mathlib.Omega.{arith}
use borrow.Author.Tests.{lt-ltb, le-ltb}
use lib.Dec.{ltb}
use lib.ListN.{length}
use Rattle.combinators.specs.Lists.{any}
use Rattle.syntax.specs.Table.{Fit}
use Rattle.syntax.specs.Filled.{Filled, values_in, bytes_in, too_wide_in}
use Rattle.syntax.proofs.Equations.{each, bounds}
use Rattle.records.specs.Records.{record_tables}
use Rattle.descriptor_heads.proofs.Widths.{fit_first, fit_others}
use Rattle.records.proofs.Sizes.{info_short}
use Rattle.loop_entries.specs.declared.Entry.{Entry}
use Rattle.loop_entries.specs.Entries.{entry_head}
use Rattle.loop_writer.specs.Layout.{entry_head_table, info_bytes, too_wide}

pub head_written : (stream_type pid length : ℕ) → stream_type < 256 → pid < 8192 → length < 4096
    → stream_type ∷ (224 + pid / 256) ∷ (pid % 256) ∷ (240 + length / 256) ∷ (length % 256) ∷ [] ≡ bytes_in (entry_head_table stream_type pid length)
head_written stream_type pid length a b c = each (omega arith)

-- an entry with nothing that is too wide
module _ (entry : Entry) (e : too_wide entry ≡ false) where
  abbrev head_table : Filled
  head_table = entry_head_table entry.stream_type entry.pid (length (info_bytes entry))

  pub head_fit : Fit entry_head (values_in head_table)
  head_fit = fit_first head_table (record_tables entry.«record» entry.embedded) e

  pub record_fit : any too_wide_in (record_tables entry.«record» entry.embedded) ≡ false
  record_fit = fit_others head_table (record_tables entry.«record» entry.embedded) e

  pub pid_small : entry.pid < 8192
  pid_small = (bounds head_fit).1.0

module _ (entry : Entry) where
  -- a PID of 13 bits: the record decides
  pub entry_fine : entry.stream_type < 256 → entry.pid < 8192
      → any too_wide_in (record_tables entry.«record» entry.embedded) ≡ too_wide entry
  entry_fine type_small small = go (any too_wide_in (record_tables entry.«record» entry.embedded)) refl
    where
      go : (b : Bool) → any too_wide_in (record_tables entry.«record» entry.embedded) ≡ b
          → any too_wide_in (record_tables entry.«record» entry.embedded) ≡ too_wide entry
      go true p = rw p (sym (or-true (too_wide_in (entry_head_table entry.stream_type entry.pid (length (info_bytes entry))))))
      go false p =
          let short : length (info_bytes entry) < 4096 = omega (arith, info_short entry.«record» entry.embedded p) in
          sym (rw (lt-ltb entry.stream_type 256 type_small, lt-ltb entry.pid 8192 small, lt-ltb (length (info_bytes entry)) 4096 short))

  pub entry_wide : 8192 ≤ entry.pid → true ≡ too_wide entry
  entry_wide large = sym (rw (le-ltb entry.pid 8192 large, and-false (ltb entry.stream_type 256)))
