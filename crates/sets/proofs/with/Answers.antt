-- `sets::with` meets its contract: the two cases of the definition are the two ways of the code.
-- Assumes nothing.
use mathlib.Core.Path.{ap}
use borrow.Author.Tests.{le-ltb, lt-ltb}
use lib.Bits.{bit_or}
use Rattle.sets.proofs.Laws.{one_shifted}
use Rattle.sets.proofs.with.Goals as goal

pub returns-then-index-ge64 : goal.returns-then-index-ge64
returns-then-index-ge64 c = simp (le-ltb _ _ c.if-index-ge64.true)

pub returns : goal.returns
returns c = simp (lt-ltb _ _ c.if-index-ge64.false) (ap (bit_or c.args.set) (one_shifted 64 _ c.if-index-ge64.false))
