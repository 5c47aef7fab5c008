-- `spans::lower` meets its contract: the ways of the code are the cases of the definition. Assumes nothing.
use borrow.Author.Tests.{lt-ltb, le-ltb}
use Rattle.spans.proofs.lower.Goals as goal

pub returns-then-not-counts : goal.returns-then-not-counts
returns-then-not-counts c = rw (c.if-not-counts.true)

pub returns-then-key-least : goal.returns-then-key-least
returns-then-key-least c = rw (c.if-not-counts.false, lt-ltb _ _ c.if-key-least.true)

pub returns : goal.returns
returns c = rw (c.if-not-counts.false, le-ltb _ _ c.if-key-least.false)
