-- Filled tables written one after another: the bytes computed are those that `Writes` means, and no others are.
-- Assumes nothing.
use Prim.Native.Nat.{ℕ}
use mathlib.Core.Path.{◌≡◌, refl, ap₂}
use mathlib.Core.Bool.{true, false}
use mathlib.Core.List.{List, [], ◌∷◌, ◌++◌}
use borrow.Author.Tests.{not-false}
use Rattle.syntax.specs.Table.{fits, Sound}
use Rattle.syntax.specs.Named.{have_lines}
use Rattle.syntax.specs.Filled.{Filled, values_in, bytes_in, too_wide_in, Writes, nothing, table_then}
use Rattle.syntax.proofs.Laws.{fits_fit}
use Rattle.syntax.proofs.NamedLaws.{written_by_meant, written_by_only}

-- a table that can be written, with no number given in vain
pub record Proper (f : Filled) : Type 0 where
  pub sound : Sound f.table
  pub lines : have_lines f.given f.table ≡ true

pub data AllProper : List Filled → Type 0 where
  none : AllProper []
  one_then : {f : Filled} {fs : List Filled} → Proper f → AllProper fs → AllProper (f ∷ fs)

pub data NoneTooWide : List Filled → Type 0 where
  none : NoneTooWide []
  one_then : {f : Filled} {fs : List Filled} → too_wide_in f ≡ false → NoneTooWide fs → NoneTooWide (f ∷ fs)

-- the bytes of tables one after another
abbrev pub bytes_of_all : List Filled → List ℕ
bytes_of_all [] = []
bytes_of_all (f ∷ fs) = bytes_in f ++ bytes_of_all fs

pub writes_meant : {fs : List Filled} → AllProper fs → NoneTooWide fs → Writes fs (bytes_of_all fs)
writes_meant none none = nothing
writes_meant (one_then {f} p ps) (one_then e es) =
    table_then (written_by_meant p.sound p.lines (fits_fit f.table (values_in f) (not-false (fits f.table (values_in f)) e))) (writes_meant ps es)

pub writes_only : {fs : List Filled} {l : List ℕ} → AllProper fs → Writes fs l → l ≡ bytes_of_all fs
writes_only none nothing = refl
writes_only (one_then p ps) (table_then w ws) = ap₂ (λ (a b : List ℕ). a ++ b) (written_by_only p.sound w) (writes_only ps ws)
