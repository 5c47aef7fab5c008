-- `put_closed` meets its contract: the two ways of the code are the two texts.
-- Assumes nothing.
use Rattle.point_lines.proofs.Parts.{told_closed, told_open}
use Rattle.text.proofs.Laws.{laid_as}
use Rattle.point_lines.proofs.put_closed.Goals as goal

pub returns-then-closed : goal.returns-then-closed
returns-then-closed c = laid_as (told_closed c.args.closed c.if-closed.true) c.put.ensures

pub returns : goal.returns
returns c = laid_as (told_open c.args.closed c.if-closed.false) c.put-2.ensures
