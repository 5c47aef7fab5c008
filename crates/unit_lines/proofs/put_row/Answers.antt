-- `unit_lines::put_row` meets its contract: six numbers, one after the other, and the end of the line.
-- Assumes nothing.
use Rattle.unit_lines.specs.Lines.{row_line}
use Rattle.text.proofs.Laws.{laid_then, laid_length}
use Rattle.unit_lines.proofs.put_row.Goals as goal

-- LEFT: no goal of today has the name slice-aggregate-put-labelled
-- slice-aggregate-put-labelled : tie.Need-slice-aggregate-put-labelled
-- slice-aggregate-put-labelled c = search rules

-- LEFT: no goal of today has the name slice-aggregate-put-labelled-2
-- slice-aggregate-put-labelled-2 : tie.Need-slice-aggregate-put-labelled-2
-- slice-aggregate-put-labelled-2 c = search rules

-- LEFT: no goal of today has the name slice-aggregate-put-labelled-3
-- slice-aggregate-put-labelled-3 : tie.Need-slice-aggregate-put-labelled-3
-- slice-aggregate-put-labelled-3 c = search rules

-- LEFT: no goal of today has the name slice-aggregate-put-labelled-4
-- slice-aggregate-put-labelled-4 : tie.Need-slice-aggregate-put-labelled-4
-- slice-aggregate-put-labelled-4 c = search rules

-- LEFT: no goal of today has the name slice-aggregate-put-labelled-5
-- slice-aggregate-put-labelled-5 : tie.Need-slice-aggregate-put-labelled-5
-- slice-aggregate-put-labelled-5 c = search rules

-- LEFT: no goal of today has the name slice-aggregate-put
-- slice-aggregate-put : tie.Need-slice-aggregate-put
-- slice-aggregate-put c = search rules

pub returns : goal.returns
unfolding row_line
returns c =
    laid_then
    (laid_then (laid_then (laid_then (laid_then (laid_then c.put_decimal-place.ensures c.put_labelled-place.ensures) c.put_labelled-place-2.ensures) c.put_labelled-place-3.ensures) c.put_labelled-place-4.ensures) c.put_labelled-place-5.ensures)
    c.put.ensures

pub shape_of-out : goal.shape_of-out
shape_of-out c = laid_length (returns c)
