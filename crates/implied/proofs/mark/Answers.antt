-- `implied::mark` meets its contract: the branch says whether the rule gives the mark.
-- Assumes nothing.
use mathlib.Core.Path.{◌∙◌, sym}
use Rattle.implied.proofs.mark.Goals as goal

pub returns-then-gives : goal.returns-then-gives
returns-then-gives c =
    rw (sym c.gives.ensures ∙ c.if-gives.true) c.with_mark.ensures

pub returns : goal.returns
returns c = rw (sym c.gives.ensures ∙ c.if-gives.false)
