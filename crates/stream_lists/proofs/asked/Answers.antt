-- `stream_lists::asked` meets its contract: the two cases of the definition are the two ways of the code. Assumes nothing.
use mathlib.Core.Path.{◌∙◌}
use Rattle.stream_lists.proofs.Building.{asked_flagged, asked_nothing}
use Rattle.stream_lists.proofs.asked.Goals as goal

pub returns-then-reference-eq1 : goal.returns-then-reference-eq1
returns-then-reference-eq1 c = let a = c.args in c.named.ensures ∙ asked_flagged a.layers a.reference c.if-reference-eq1.true

pub returns : goal.returns
returns c = let a = c.args in asked_nothing a.layers a.reference c.if-reference-eq1.false
