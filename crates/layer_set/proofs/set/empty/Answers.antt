-- `empty` meets its contract: the set of nothing placed.
-- Assumes nothing.
use mathlib.Core.Path.{ap, ◌∙◌}
use Rattle.layer_set.specs.Sets.{worked_set}
use Rattle.layer_set.proofs.set.empty.Goals as goal

pub returns : goal.returns
returns c = c.work.ensures ∙ ap worked_set c.nothing_placed.ensures
