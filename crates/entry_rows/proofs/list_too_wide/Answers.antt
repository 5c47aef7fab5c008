-- `entry_rows::list_too_wide` meets its contract. The invariant: none of the layers passed is too wide.
-- Assumes nothing.
use Prim.Native.Nat.{ℕ}
use mathlib.Core.Bool.{◌||◌}
use mathlib.Core.List.{List}
use mathlib.Core.Path.{refl, sym, ◌∙◌, ap, ap₂}
use lib.ListN.{take}
use lib.Seq.{take_all}
use Rattle.combinators.specs.Lists.{any, any_next, any_true, get_d_nth}
use Rattle.entry_rows.specs.Rows.{layer_too_wide}
use Rattle.entry_rows.proofs.Widths.{layer_wide, layer_fine}
use native.Mathlib.Omega.{arith}
use Rattle.entry_rows.proofs.list_too_wide.Goals as goal

pub loop-number-init : goal.loop-number-init
loop-number-init c = (omega arith, refl)

pub returns-then-number-gt63 : goal.returns-then-number-gt63
returns-then-number-gt63 c =
    let items : List ℕ = take c.args.count c.args.list.now in
    sym (any_true layer_too_wide (get_d_nth items c.loop-number.number-index 0 (omega arith)) (layer_wide _ c.if-number-gt63.true))

pub loop-number-preserved : goal.loop-number-preserved
loop-number-preserved c =
    let items : List ℕ = take c.args.count c.args.list.now in
    let loop = c.loop-number in
    (omega arith, any_next items 0 layer_too_wide loop.number-index (omega arith) ∙ ap₂ ◌||◌ loop.invariant.1 (layer_fine _ c.if-number-gt63.false))

pub returns : goal.returns
returns c =
    let items : List ℕ = take c.args.count c.args.list.now in
    let loop = c.loop-number in
    sym (ap (any layer_too_wide) (sym (take_all loop.number-index items (omega arith))) ∙ loop.invariant.1)
