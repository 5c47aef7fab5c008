-- `loop_faults::slot_of` meets its contract: the branch says whether the record makes a layer, and an index is a byte.
-- Assumes nothing.
use mathlib.Core.Path.{◌≡◌, ◌∙◌, ap, sym}
use native.Mathlib.Omega.{arith}
use mathlib.Core.Bool.{Bool, cond}
use Rattle.records.specs.Records.{index_of, plain}
use Rattle.loop_faults.proofs.slot_of.Goals as goal

pub returns-then-is_layer : goal.returns-then-is_layer
returns-then-is_layer c =
    let a = c.args in
    let t = a.stream_type in
    let r = a.«record» in
    let index : c.layer_index-index.result.0 ≡ index_of t r = ap plain c.layer_index-index.ensures in
    (c.from.ensures ∙ index ∙ sym (ap (λ (b : Bool). cond b (index_of t r) 256) (sym c.is_layer.ensures ∙ c.if-is_layer.true)), omega (arith, c.layer_index-index.type_inv.1.1.0.1, index))

pub returns : goal.returns
returns c =
    let a = c.args in
    let t = a.stream_type in
    let r = a.«record» in (
      sym (ap (λ (b : Bool). cond b (index_of t r) 256) (sym c.is_layer.ensures ∙ c.if-is_layer.false)),
      omega (arith, c.layer_index-index.type_inv.1.1.0.1, ap plain c.layer_index-index.ensures),
    )
