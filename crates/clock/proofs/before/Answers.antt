-- `clock::before` meets its contract: it tests the forward distance back, as the definition does.
-- Assumes nothing.
use Rattle.std.proofs.Common.{leb, ap}
use Rattle.clock.specs.Clock.{half}
use Rattle.clock.proofs.before.Goals as goal

pub returns : goal.returns
returns c = ap (leb half) c.distance.ensures
