-- `put_rates` meets its contract: the frame rate and both bit rates, one after the other.
-- Assumes nothing.
use Rattle.point_lines.specs.Lines.{rates_text}
use Rattle.text.proofs.Laws.{laid_then, laid_length}
use Rattle.point_lines.proofs.put_rates.Goals as goal

pub returns : goal.returns
unfolding rates_text
returns c = laid_then (laid_then c.put_frame_rate-place.ensures c.put_rate-place.ensures) c.put_rate.ensures

pub shape_of-out : goal.shape_of-out
shape_of-out c = laid_length (returns c)
