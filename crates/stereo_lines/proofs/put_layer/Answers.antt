-- `put_layer` meets its contract: the seven pieces of the line, one after the other.
-- Assumes nothing.
use Rattle.text.proofs.Laws.{laid_then, laid_length}
use Rattle.stereo_lines.specs.Lines.{layer_line}
use Rattle.stereo_lines.proofs.put_layer.Goals as goal

-- LEFT: no goal of today has the name slice-aggregate-put-labelled
-- slice-aggregate-put-labelled : tie.Need-slice-aggregate-put-labelled
-- slice-aggregate-put-labelled c = search rules

-- LEFT: no goal of today has the name slice-aggregate-put-labelled-2
-- slice-aggregate-put-labelled-2 : tie.Need-slice-aggregate-put-labelled-2
-- slice-aggregate-put-labelled-2 c = search rules

-- LEFT: no goal of today has the name slice-aggregate-put-labelled-3
-- slice-aggregate-put-labelled-3 : tie.Need-slice-aggregate-put-labelled-3
-- slice-aggregate-put-labelled-3 c = search rules

-- LEFT: no goal of today has the name slice-aggregate-put-labelled-4
-- slice-aggregate-put-labelled-4 : tie.Need-slice-aggregate-put-labelled-4
-- slice-aggregate-put-labelled-4 c = search rules

-- LEFT: no goal of today has the name slice-aggregate-put-labelled-5
-- slice-aggregate-put-labelled-5 : tie.Need-slice-aggregate-put-labelled-5
-- slice-aggregate-put-labelled-5 c = search rules

-- LEFT: no goal of today has the name slice-aggregate-put-labelled-6
-- slice-aggregate-put-labelled-6 : tie.Need-slice-aggregate-put-labelled-6
-- slice-aggregate-put-labelled-6 c = search rules

-- LEFT: no goal of today has the name slice-aggregate-put
-- slice-aggregate-put : tie.Need-slice-aggregate-put
-- slice-aggregate-put c = search rules

pub returns : goal.returns
unfolding layer_line
returns c =
    laid_then
    (laid_then (laid_then (laid_then (laid_then (laid_then c.put_labelled-place.ensures c.put_labelled-place-2.ensures) c.put_labelled-place-3.ensures) c.put_labelled-place-4.ensures) c.put_labelled-place-5.ensures) c.put_labelled-place-6.ensures)
    c.put.ensures

pub shape_of-out : goal.shape_of-out
shape_of-out c = laid_length (returns c)
