-- `unit_starts::lower` meets its contract: the test picks the case. Assumes nothing.
use borrow.Author.Tests.{lt-ltb, le-ltb}
use Rattle.unit_starts.proofs.lower.Goals as goal

pub returns-then-number-mark : goal.returns-then-number-mark
returns-then-number-mark c = simp (lt-ltb c.args.number c.args.mark.number c.if-number-mark.true)

pub returns : goal.returns
returns c = simp (le-ltb c.args.number c.args.mark.number c.if-number-mark.false)
