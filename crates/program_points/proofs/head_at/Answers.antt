-- `head_at` meets its contract.
-- Assumes nothing.
use Rattle.program_points.specs.Places.{head_or}
use Rattle.operation_points.specs.Points.{head_of}
use Rattle.combinators.specs.Lists.{part_to_end}
use mathlib.Core.Path.{ap, ◌∙◌}
use Rattle.program_points.proofs.head_at.Goals as goal

pub returns : goal.returns
returns c = c.head_or.ensures ∙ ap head_or (c.read_head.ensures ∙ ap head_of (part_to_end c.args.program.now c.args.at))
