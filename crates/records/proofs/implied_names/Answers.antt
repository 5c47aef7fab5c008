-- `records::implied_names` meets its contract: the branch says whether it is the second view, which names the first.
-- Assumes nothing.
use borrow.Author.Tests.{ne_eqb}
use Rattle.records.proofs.implied_names.Goals as goal

pub returns-then-stream_type-eq-SECOND_VIEW : goal.returns-then-stream_type-eq-SECOND_VIEW
returns-then-stream_type-eq-SECOND_VIEW c = rw c.if-stream_type-eq-SECOND_VIEW.true c.with_index.ensures

pub returns : goal.returns
returns c = rw (ne_eqb c.args.stream_type 0x20 c.if-stream_type-eq-SECOND_VIEW.false)
