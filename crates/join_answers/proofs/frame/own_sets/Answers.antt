-- `join_answers::frame::own_sets` meets its contract: what the layers of a closure rest on they rest on among themselves (OwnSets).
-- Assumes nothing.
use mathlib.Core.Path.{◌∙◌}
use Rattle.join_answers.proofs.OwnSets.{own_is}
use Rattle.join_answers.proofs.frame.own_sets.Goals as goal

pub returns : goal.returns
returns c = c.every_closure.ensures ∙ own_is _ _ _ c.requires.1
