-- `sets::size` meets its contract: each member is a 1, and there are at most 64.
-- Assumes nothing.
use native.Mathlib.Omega.{arith}
use lib.Count.{ones-le}
use Rattle.sets.proofs.Laws.{ones_size}
use Rattle.sets.proofs.size.Goals as goal

pub overflow_cast-result : goal.overflow_cast-result
overflow_cast-result c = omega (arith, ones-le 64 c.args.set c.ranges.set.fits)

pub returns : goal.returns
returns c = ones_size c.args.set c.ranges.set.fits
