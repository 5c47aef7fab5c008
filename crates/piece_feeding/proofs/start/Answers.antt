-- `piece_feeding::start` meets its contract. Assumes nothing.
use mathlib.Core.Path.{ap}
use Rattle.piece_feeding.proofs.Meant.{from_found}
use Rattle.piece_feeding.proofs.start.Goals as goal

pub returns : goal.returns
returns c = ap from_found c.nothing.ensures
