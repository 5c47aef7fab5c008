-- `put_point` meets its contract: the five pieces of the line, one after the other.
-- Assumes nothing.
use Rattle.point_lines.specs.Lines.{point_line}
use Rattle.text.proofs.Laws.{laid_then, laid_length}
use Rattle.point_lines.proofs.put_point.Goals as goal

pub returns : goal.returns
unfolding point_line
returns c =
    laid_then
    (laid_then (laid_then (laid_then c.put_front-place.ensures c.put_rates-place.ensures) c.put_closed-place.ensures) c.put_streams-place.ensures)
    c.put.ensures

pub shape_of-out : goal.shape_of-out
shape_of-out c = laid_length (returns c)
