-- `unit_lines::put_refusal` meets its contract: two numbers behind their labels, and the end of the line.
-- Assumes nothing.
use Rattle.unit_lines.specs.Lines.{refusal_line}
use Rattle.text.proofs.Laws.{laid_then}
use Rattle.unit_lines.proofs.put_refusal.Goals as goal

-- LEFT: no goal of today has the name slice-aggregate-put-labelled
-- slice-aggregate-put-labelled : tie.Need-slice-aggregate-put-labelled
-- slice-aggregate-put-labelled c = search rules

-- LEFT: no goal of today has the name slice-aggregate-put-labelled-2
-- slice-aggregate-put-labelled-2 : tie.Need-slice-aggregate-put-labelled-2
-- slice-aggregate-put-labelled-2 c = search rules

-- LEFT: no goal of today has the name slice-aggregate-put
-- slice-aggregate-put : tie.Need-slice-aggregate-put
-- slice-aggregate-put c = search rules

pub returns : goal.returns
unfolding refusal_line
returns c = laid_then (laid_then c.put_labelled-next.ensures c.put_labelled-next-2.ensures) c.put.ensures
