-- `rows::out_of_range` meets its contract: each way of the code decides the tests of the definition up to its own.
-- Assumes nothing.
use borrow.Author.Tests.{lt-ltb, le-ltb, le-leb, lt-leb}
use Rattle.rows.proofs.out_of_range.Goals as goal

pub returns-then-index-gt63 : goal.returns-then-index-gt63
returns-then-index-gt63 c = rw (lt-ltb 63 _ c.if-index-gt63.true)

pub returns-then-decoding-ge-TICKS : goal.returns-then-decoding-ge-TICKS
returns-then-decoding-ge-TICKS c = rw (le-ltb 63 _ c.if-index-gt63.false, le-leb 8589934592 _ c.if-decoding-ge-TICKS.true)

pub returns : goal.returns
returns c = rw (le-ltb 63 _ c.if-index-gt63.false, lt-leb 8589934592 _ c.if-decoding-ge-TICKS.false)
