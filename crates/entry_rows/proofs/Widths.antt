-- What the tests of a row's widths say: bounds of its values, and the whole test from its parts.
-- Assumes nothing.
use Prim.Native.Nat.{ℕ, ◌≤◌, ◌<◌}
use mathlib.Core.Path.{◌≡◌}
use mathlib.Core.Bool.{true, false}
use mathlib.Core.List.{List, [], ◌∷◌}
use native.Mathlib.Omega.{arith}
use borrow.Author.Tests.{not-false, lt-ltb, le-ltb}
use Rattle.syntax.specs.Table.{Table}
use Rattle.syntax.proofs.Laws.{fits_fit}
use Rattle.syntax.proofs.Equations.{Bounds, bounds}
use Rattle.extension.specs.Extension.{embedded_layer}
use Rattle.entry_rows.specs.Rows.{fields_in, too_wide_for, layer_too_wide}

-- each value of a row that a table can hold is below two to its width
pub row_bounds : (table : Table) (row : List ℕ) → too_wide_for table row ≡ false → Bounds table (fields_in table row)
row_bounds table row e = bounds (fits_fit table (fields_in table row) (not-false _ e))

-- one embedded layer
pub layer_bound : (index : ℕ) → layer_too_wide index ≡ false → index < 64
layer_bound index e = (bounds (fits_fit embedded_layer (index ∷ []) (not-false _ e))).0

pub layer_wide : (index : ℕ) → 63 < index → layer_too_wide index ≡ true
layer_wide index h = rw (le-ltb index 64 h)

pub layer_fine : (index : ℕ) → index ≤ 63 → layer_too_wide index ≡ false
layer_fine index h = let small : index < 64 = omega arith in rw (lt-ltb index 64 small)
