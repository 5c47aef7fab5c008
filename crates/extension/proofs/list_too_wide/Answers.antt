-- `list_too_wide` meets its contract. The invariant: none of the layers passed is too wide.
-- Assumes nothing.
use mathlib.Core.Bool.{◌||◌}
use mathlib.Core.List.{List}
use mathlib.Core.Path.{◌≡◌, refl, sym, ◌∙◌, ap, ap₂}
use native.Mathlib.Omega.{arith}
use lib.ListN.{take}
use lib.Seq.{take_all}
use Rattle.vocabulary.specs.declared.LayerIndex.{LayerIndex}
use Rattle.combinators.specs.Lists.{any, any_map, any_next, any_true, get_d_nth}
use Rattle.syntax.specs.Filled.{too_wide_in}
use Rattle.extension.specs.Extension.{layer_table}
use Rattle.extension.proofs.list_too_wide.Goals as goal

pub loop-index-init : goal.loop-index-init
loop-index-init c = (omega arith, refl)

pub returns-then-layer_too_wide : goal.returns-then-layer_too_wide
returns-then-layer_too_wide c =
    let items : List LayerIndex = take c.args.count c.args.embedded in
    sym (any_map too_wide_in layer_table items
    ∙ any_true (λ x. too_wide_in (layer_table x)) (get_d_nth items c.loop-index.index-index _ (omega arith)) (sym c.layer_too_wide.ensures ∙ c.if-layer_too_wide.true))

pub loop-index-preserved : goal.loop-index-preserved
loop-index-preserved c =
    let items : List LayerIndex = take c.args.count c.args.embedded in
    let loop = c.loop-index in (
      omega arith,
      any_next items _ (λ x. too_wide_in (layer_table x)) loop.index-index (omega arith) ∙ ap₂ ◌||◌ loop.invariant.1 (sym c.layer_too_wide.ensures ∙ c.if-layer_too_wide.false),
    )

pub returns : goal.returns
returns c =
    let items : List LayerIndex = take c.args.count c.args.embedded in
    let loop = c.loop-index in
    sym (any_map too_wide_in layer_table items
    ∙ ap (any (λ x. too_wide_in (layer_table x))) (sym (take_all loop.index-index items (omega arith))) ∙ loop.invariant.1)
