-- `implied::gives` meets its contract: both tests are the definition's.
-- Assumes nothing.
use mathlib.Core.Path.{ap}
use mathlib.Core.Bool.{Bool, ◌&&◌}
use Rattle.implied.proofs.gives.Goals as goal

pub returns : goal.returns
returns c = ap (λ (b : Bool). b && c.args.pair) c.is_view.ensures
