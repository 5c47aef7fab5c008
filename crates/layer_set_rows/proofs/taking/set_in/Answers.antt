-- `set_in` meets its contract: worked out from what is placed.
-- Assumes nothing.
use mathlib.Core.Path.{ap, ◌∙◌}
use Rattle.layer_set.specs.Sets.{worked_set}
use Rattle.layer_set_rows.proofs.taking.set_in.Goals as goal

pub returns : goal.returns
returns c = c.work.ensures ∙ ap worked_set c.placed_in.ensures
