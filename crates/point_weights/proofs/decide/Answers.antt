-- `decide` meets its contract: the tests in their order.
-- Assumes nothing.
use mathlib.Core.Path.{sym}
use borrow.Author.Tests.{lt-ltb, le-ltb}
use Rattle.point_weights.proofs.decide.Goals as goal

pub returns-then-weighed-references : goal.returns-then-weighed-references
returns-then-weighed-references c = sym (rw c.if-weighed-references.true)

pub returns-then-weighed : goal.returns-then-weighed
returns-then-weighed c = sym (rw (c.if-weighed-references.false, c.if-weighed.true))

pub returns-then-length-gt255 : goal.returns-then-length-gt255
returns-then-length-gt255 c = sym (rw (c.if-weighed-references.false, c.if-weighed.false, lt-ltb _ _ c.if-length-gt255.true))

pub returns : goal.returns
returns c = sym (rw (c.if-weighed-references.false, c.if-weighed.false, le-ltb _ _ c.if-length-gt255.false))
