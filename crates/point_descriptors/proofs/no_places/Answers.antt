-- `no_places` meets its contract.
-- Assumes nothing.
use mathlib.Core.Path.{refl}
use Rattle.point_descriptors.specs.Descriptors.{no_places}
use Rattle.point_descriptors.proofs.no_places.Goals as goal

pub returns : goal.returns
unfolding no_places
returns c = refl
