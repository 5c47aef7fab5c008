-- `put_list` meets its contract. The invariant: the layers passed are laid in, after the empty text at the start.
-- Assumes nothing.
use Rattle.buffers.proofs.Laws.{laid_as, laid_length, laid_then}
use mathlib.Core.Path.{sym, ◌∙◌, ap}
use native.Mathlib.Omega.{arith}
use lib.Seq.{take_all}
use Rattle.buffers.proofs.Pieces.{pieces_start, pieces_next}
use Rattle.combinators.specs.Lists.{gather, gather_map, any_map, any_false, get_d_nth}
use Rattle.syntax.specs.Filled.{bytes_in, too_wide_in}
use Rattle.extension.specs.Extension.{layer_table}
use Rattle.descriptor_heads.proofs.Widths.{fit_in}
use Rattle.extension.proofs.put_list.Goals as goal

pub loop-index-init : goal.loop-index-init
loop-index-init c = (omega arith, pieces_start c.args.list.now (λ x. bytes_in (layer_table x)) c.put-place.ensures)

pub embedded_layer-layer-requires : goal.embedded_layer-layer-requires
embedded_layer-layer-requires c =
    let list = c.args.list.now in
    fit_in (layer_table _)
    (any_false (λ x. too_wide_in (layer_table x)) (sym (any_map too_wide_in layer_table list) ∙ c.requires) (get_d_nth list c.loop-index.index-index _ (omega arith)))

pub loop-index-preserved : goal.loop-index-preserved
loop-index-preserved c =
    let loop = c.loop-index in (
      omega arith,
      pieces_next c.args.list.now (λ x. bytes_in (layer_table x)) loop.index-index _ (omega arith) loop.invariant.1
          (laid_as c.embedded_layer-layer.ensures c.put-place-in-loop-index.ensures),
    )

pub returns : goal.returns
returns c =
    let list = c.args.list.now in
    let loop = c.loop-index in
    laid_as (ap (gather (λ x. bytes_in (layer_table x))) (take_all loop.index-index list (omega arith)) ∙ sym (gather_map bytes_in layer_table list))
    (laid_then c.put-place.ensures loop.invariant.1)

pub shape_of-out : goal.shape_of-out
shape_of-out c = laid_length (returns c)
