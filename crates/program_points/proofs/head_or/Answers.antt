-- `head_or` meets its contract.
-- Assumes nothing.
use Rattle.program_points.specs.Places.{head_or}
use mathlib.Core.Path.{sym, ap}
use Rattle.program_points.proofs.head_or.Goals as goal

pub returns-in-None : goal.returns-in-None
returns-in-None c = ap head_or (sym c.in-None.is)
