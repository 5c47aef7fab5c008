-- `sets::member` meets its contract: below 64 the test is the definition itself, and a set of 64 bits has no member from 64 on.
-- Assumes nothing.
use mathlib.Core.Path.{sym}
use Rattle.sets.proofs.Laws.{has_beyond}
use Rattle.sets.proofs.member.Goals as goal

pub returns-then-index-ge64 : goal.returns-then-index-ge64
returns-then-index-ge64 c = sym (has_beyond 64 _ c.ranges.set.fits c.if-index-ge64.true)
