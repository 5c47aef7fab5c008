-- `records::implied_index` meets its contract: the branch says whether it is the second view.
-- Assumes nothing.
use borrow.Author.Tests.{ne_eqb}
use Rattle.records.proofs.implied_index.Goals as goal

pub returns-then-stream_type-eq-SECOND_VIEW : goal.returns-then-stream_type-eq-SECOND_VIEW
returns-then-stream_type-eq-SECOND_VIEW c = rw c.if-stream_type-eq-SECOND_VIEW.true

pub returns-else-stream_type-eq-SECOND_VIEW : goal.returns-else-stream_type-eq-SECOND_VIEW
returns-else-stream_type-eq-SECOND_VIEW c = rw (ne_eqb c.args.stream_type 0x20 c.if-stream_type-eq-SECOND_VIEW.false)
