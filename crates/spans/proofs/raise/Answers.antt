-- `spans::raise` meets its contract: the ways of the code are the cases of the definition. Assumes nothing.
use borrow.Author.Tests.{lt-ltb, le-ltb}
use Rattle.spans.proofs.raise.Goals as goal

pub returns-then-not-counts : goal.returns-then-not-counts
returns-then-not-counts c = rw (c.if-not-counts.true)

pub returns-then-greatest-key : goal.returns-then-greatest-key
returns-then-greatest-key c = rw (c.if-not-counts.false, lt-ltb _ _ c.if-greatest-key.true)

pub returns : goal.returns
returns c = rw (c.if-not-counts.false, le-ltb _ _ c.if-greatest-key.false)
