-- `sets::rest` meets its contract: one less than the set has its lowest 1 taken, and ones below it.
-- Assumes nothing.
use Rattle.sets.proofs.Members.{rest_is}
use Rattle.sets.proofs.rest.Goals as goal

pub returns : goal.returns
returns c = rest_is c.args.set c.ranges.set.fits c.if-set-eq0.false
