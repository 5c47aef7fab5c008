-- `put_streams` meets its contract: the members behind their label, or that there is none.
-- Assumes nothing.
use Rattle.point_lines.proofs.Parts.{no_streams, some_streams}
use Rattle.text.proofs.Laws.{laid_as, laid_then}
use Rattle.point_lines.proofs.put_streams.Goals as goal

pub returns-then-streams-eq0 : goal.returns-then-streams-eq0
returns-then-streams-eq0 c = laid_as (no_streams c.args.streams.now c.if-streams-eq0.true) c.put.ensures

pub returns : goal.returns
returns c = laid_as (some_streams c.args.streams.now c.if-streams-eq0.false) (laid_then c.put-place.ensures c.put_members.ensures)
