-- `set_of` meets its contract: the count and the two tests say which arm of the definition it is.
-- Assumes nothing.
use mathlib.Core.Path.{◌≡◌, ◌∙◌, ap₂, sym}
use mathlib.Core.Bool.{true, false, ◌&&◌}
use borrow.Author.Tests.{ne_eqb, eq-eqb}
use Rattle.stereo_set.specs.Views.{is_base_layer, is_second_layer}
use Rattle.stereo_set.proofs.set.set_of.Goals as goal

pub returns-then-layers-ne2 : goal.returns-then-layers-ne2
returns-then-layers-ne2 c = rw (ne_eqb c.args.layers.count 2 c.if-layers-ne2.true) c.refused.ensures

pub returns-then-is_base-is_second : goal.returns-then-is_base-is_second
returns-then-is_base-is_second c =
    let l = c.args.layers in
    let same : (is_base_layer l.first.entry && is_second_layer l.second.entry) ≡ true =
    sym (ap₂ ◌&&◌ c.is_base.ensures c.is_second.ensures) ∙ c.if-is_base-is_second.true in
    rw (eq-eqb l.count 2 c.if-layers-ne2.false, same) c.judge_described.ensures

pub returns-then-is_base-is_second-2 : goal.returns-then-is_base-is_second-2
returns-then-is_base-is_second-2 c =
    let l = c.args.layers in
    let other : (is_base_layer l.first.entry && is_second_layer l.second.entry) ≡ false =
    sym (ap₂ ◌&&◌ c.is_base.ensures c.is_second.ensures) ∙ c.if-is_base-is_second.false in
    let same : (is_base_layer l.second.entry && is_second_layer l.first.entry) ≡ true =
    sym (ap₂ ◌&&◌ c.is_base-2.ensures c.is_second-2.ensures) ∙ c.if-is_base-is_second-2.true in
    rw (eq-eqb l.count 2 c.if-layers-ne2.false, other, same) c.judge_described-then-is_base-is_second-2.ensures

pub returns : goal.returns
returns c =
    let l = c.args.layers in
    let other : (is_base_layer l.first.entry && is_second_layer l.second.entry) ≡ false =
    sym (ap₂ ◌&&◌ c.is_base.ensures c.is_second.ensures) ∙ c.if-is_base-is_second.false in
    let neither : (is_base_layer l.second.entry && is_second_layer l.first.entry) ≡ false =
    sym (ap₂ ◌&&◌ c.is_base-2.ensures c.is_second-2.ensures) ∙ c.if-is_base-is_second-2.false in
    rw (eq-eqb l.count 2 c.if-layers-ne2.false, other, neither) c.refused-2.ensures
