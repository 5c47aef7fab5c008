-- `no_views` meets its contract.
-- Assumes nothing.
use mathlib.Core.Path.{ap₂}
use Rattle.stereo_set.specs.declared.views.View.{View}
use Rattle.stereo_set.proofs.views.no_views.Goals as goal

pub returns : goal.returns
returns c = ap₂ (λ (a b : View). record { count = 0; first = a; second = b }) c.no_view.ensures c.no_view-2.ensures
