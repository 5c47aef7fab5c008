-- `listing::put_layer` meets its contract: the seven pieces of the line, one after the other.
-- Assumes nothing.
use mathlib.Core.Path.{ap}
use Rattle.text.specs.Text.{ascii}
use Rattle.text.proofs.Laws.{laid_then, laid_length, laid_as}
use Rattle.listing.specs.Lines.{labelled, layer_line}
use Rattle.listing.proofs.put_layer.Goals as goal

pub returns : goal.returns
unfolding layer_line
returns c =
    laid_then
    (laid_then
    (laid_then
    (laid_then
    (laid_then
    (laid_then
    (laid_as (ap (labelled (ascii "layer ")) c.from.ensures) c.put_labelled-place.ensures)
    (laid_as (ap (labelled (ascii " pid ")) c.from-2.ensures) c.put_labelled-place-2.ensures))
    (laid_as (ap (labelled (ascii " type ")) c.from-3.ensures) c.put_labelled-place-3.ensures))
    (laid_as (ap (labelled (ascii " channel ")) c.from-4.ensures) c.put_labelled-place-4.ensures))
    c.put-place.ensures)
    c.put_closure-place.ensures)
    c.put.ensures

pub shape_of-out : goal.shape_of-out
shape_of-out c = laid_length (returns c)
