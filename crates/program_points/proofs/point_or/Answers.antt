-- `point_or` meets its contract.
-- Assumes nothing.
use Rattle.program_points.specs.Places.{point_or}
use mathlib.Core.Path.{sym, ap}
use Rattle.program_points.proofs.point_or.Goals as goal

pub returns-in-Ok : goal.returns-in-Ok
returns-in-Ok c = ap point_or (sym c.in-Ok.is)
