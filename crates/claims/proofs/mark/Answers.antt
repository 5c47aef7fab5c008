-- `claims::mark` meets its contract: the two ways of the code are the two cases of the definition.
-- Assumes nothing.
use borrow.Author.Tests.{lt-ltb, le-ltb}
use Rattle.claims.proofs.mark.Goals as goal

pub returns-then-row-count : goal.returns-then-row-count
returns-then-row-count c = rw (lt-ltb _ _ c.if-row-count.true)

pub returns-else-row-count : goal.returns-else-row-count
returns-else-row-count c = rw (le-ltb _ _ c.if-row-count.false)
