-- `unit_lines::put_unit` meets its contract: the row numbers, the lags and the end of the line, one after the other.
-- Assumes nothing.
use Rattle.unit_lines.specs.Lines.{unit_line}
use Rattle.text.proofs.Laws.{laid_then}
use Rattle.unit_lines.proofs.put_unit.Goals as goal

-- LEFT: no goal of today has the name slice-aggregate-put
-- slice-aggregate-put : tie.Need-slice-aggregate-put
-- slice-aggregate-put c = search rules

pub returns : goal.returns
unfolding unit_line
returns c = laid_then (laid_then c.put_numbers-place.ensures c.put_lags-place.ensures) c.put.ensures
