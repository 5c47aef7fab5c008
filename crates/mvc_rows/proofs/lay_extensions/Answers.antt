-- `lay_extensions` meets its contract: one row after the other.
-- Assumes nothing.
use Prim.Native.Nat.{ℕ}
use mathlib.Core.Path.{◌≡◌, refl, ◌∙◌, ap₂}
use mathlib.Core.List.{List, ◌++◌}
use lib.ListN.{take, drop}
use Rattle.std.proofs.Common.{rules}
use Rattle.mvc_extension.specs.MvcExtension.{mvc_extension_fields}
use Rattle.mvc_rows.proofs.Two.{two_rows}
use Rattle.mvc_rows.proofs.lay_extensions.Goals as goal

pub returns : goal.returns
returns c =
    let a = c.args in
    let first : c.copy_from_slice.new.self ≡ c.row_of.result = search rules in
    let second : c.copy_from_slice-2.new.self ≡ c.row_of-2.result = search rules in
    ap₂ (λ (x y : List ℕ). take 8 (x ++ drop 8 a.out.now) ++ (y ++ drop 8 (drop 8 (x ++ drop 8 a.out.now)))) (first ∙ c.row_of.ensures) (second ∙ c.row_of-2.ensures)
    ∙ two_rows (mvc_extension_fields a.first) (mvc_extension_fields a.second) a.out.now 8 8 refl refl
