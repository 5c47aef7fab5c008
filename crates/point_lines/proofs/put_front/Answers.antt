-- `put_front` meets its contract: three numbers behind their labels, one after the other.
-- Assumes nothing.
use Rattle.point_lines.specs.Lines.{front_text}
use Rattle.text.proofs.Laws.{laid_then, laid_length}
use Rattle.point_lines.proofs.put_front.Goals as goal

pub returns : goal.returns
unfolding front_text
returns c = laid_then (laid_then c.put_labelled-place.ensures (rw c.from.ensures at c.put_labelled-place-2.ensures)) (rw c.from-2.ensures at c.put_labelled.ensures)

pub shape_of-out : goal.shape_of-out
shape_of-out c = laid_length (returns c)
