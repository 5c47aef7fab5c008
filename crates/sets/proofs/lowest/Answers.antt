-- `sets::lowest` meets its contract: as many zeros stand below the lowest 1 as its place says, and at most 64.
-- Assumes nothing.
use native.Mathlib.Omega.{arith}
use lib.Count.{trailing_le}
use Rattle.sets.proofs.Laws.{trailing_zeros_lowest}
use Rattle.sets.proofs.lowest.Goals as goal

pub overflow_cast-result : goal.overflow_cast-result
overflow_cast-result c = omega (arith, trailing_le 64 c.args.set)

pub returns : goal.returns
returns c = trailing_zeros_lowest c.args.set
