-- `point_at` meets its contract.
-- Assumes nothing.
use Rattle.program_points.specs.Places.{point_or}
use Rattle.operation_points.specs.Points.{first_point}
use Rattle.combinators.specs.Lists.{part_to_end}
use mathlib.Core.Path.{ap, ◌∙◌}
use Rattle.program_points.proofs.point_at.Goals as goal

pub returns : goal.returns
returns c = c.point_or.ensures ∙ ap point_or (c.first_point.ensures ∙ ap first_point (part_to_end c.args.program.now c.args.at))
