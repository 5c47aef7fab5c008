-- `entry_rows::row_too_wide` meets its contract: the tests in their order decide (Judged).
-- Assumes nothing.
use mathlib.Core.Path.{sym, ◌∙◌, ap}
use Rattle.entry_rows.proofs.Judged.{kind_wide, type_wide, pid_wide, hierarchy_decides, extension_decides, fieldless_fine}
use native.Mathlib.Omega.{arith}
use Prim.Native.Nat.{ℕ, ◌-◌}
use mathlib.Core.Bool.{Bool, ◌||◌}
use mathlib.Core.List.{List}
use lib.ListN.{length, get_or, take, drop, length-take, length-drop}
use Rattle.combinators.specs.Bools.{either_left}
use Rattle.combinators.specs.Lists.{any, part_to_end}
use Rattle.extension.specs.Extension.{extension_head}
use Rattle.entry_rows.specs.Rows.{list_in, layer_too_wide}
use Rattle.entry_rows.proofs.Widths.{row_bounds}
use Rattle.entry_rows.proofs.row_too_wide.Goals as goal

pub returns-then-kind-gt3 : goal.returns-then-kind-gt3
returns-then-kind-gt3 c = kind_wide _ c.if-kind-gt3.true

pub returns-then-row-gt255 : goal.returns-then-row-gt255
returns-then-row-gt255 c = type_wide _ c.if-row-gt255.true

pub returns-then-row-gt8191 : goal.returns-then-row-gt8191
returns-then-row-gt8191 c = pid_wide _ c.if-row-gt8191.true

pub returns-then-kind-eq1 : goal.returns-then-kind-eq1
returns-then-kind-eq1 c =
    let row = c.args.row.now in
    c.hierarchy_too_wide.ensures ∙ hierarchy_decides row (omega (arith, c.if-row-gt255.false)) (omega (arith, c.if-row-gt8191.false)) c.if-kind-eq1.true

pub returns-then-extension_too_wide : goal.returns-then-extension_too_wide
returns-then-extension_too_wide c =
    let row = c.args.row.now in
    let wide = sym c.extension_too_wide.ensures ∙ c.if-extension_too_wide.true in
    sym (either_left _ _ wide) ∙ extension_decides row (omega (arith, c.if-row-gt255.false)) (omega (arith, c.if-row-gt8191.false)) c.if-kind-eq2.true

pub list_too_wide-requires : goal.list_too_wide-requires
list_too_wide-requires c =
    let row = c.args.row.now in
    let fine = sym c.extension_too_wide.ensures ∙ c.if-extension_too_wide.false in
    let b = row_bounds extension_head row fine in
    simp (length-take, length-drop) (omega arith)

pub returns-then-kind-eq2 : goal.returns-then-kind-eq2
returns-then-kind-eq2 c =
    let row = c.args.row.now in
    let fine = sym c.extension_too_wide.ensures ∙ c.if-extension_too_wide.false in
    c.list_too_wide.ensures
    ∙ ap (λ (n : ℕ). any layer_too_wide (take n (take (length row - 16) (drop 16 row)))) c.from.ensures
    ∙ ap (λ (l : List ℕ). any layer_too_wide (take (get_or row 15 0) l)) (part_to_end row 16)
    ∙ sym (ap (λ (t : Bool). t || any layer_too_wide (list_in row)) fine)
    ∙ extension_decides row (omega (arith, c.if-row-gt255.false)) (omega (arith, c.if-row-gt8191.false)) c.if-kind-eq2.true

pub returns : goal.returns
returns c =
    let row = c.args.row.now in
    fieldless_fine row (omega (arith, c.if-row-gt255.false)) (omega (arith, c.if-row-gt8191.false))
    c.if-kind-gt3.false c.if-kind-eq1.false c.if-kind-eq2.false
