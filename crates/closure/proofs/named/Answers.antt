-- `closure::named` meets its contract: the two cases of the definition are the two ways of the code.
-- Assumes nothing.
use mathlib.Core.Path.{sym, ◌∙◌}
use Rattle.sets.specs.Sets.{has}
use Rattle.closure.proofs.Scan.{names_nothing, names_lower}
use Rattle.closure.proofs.named.Goals as goal

pub returns-then-not-member : goal.returns-then-not-member
returns-then-not-member c =
    let a = c.args in
    names_nothing (has a.present a.index) a.embedded a.index (sym c.member.ensures ∙ c.if-not-member.true)

pub returns : goal.returns
returns c =
    let a = c.args in
    c.below.ensures
    ∙ names_lower (has a.present a.index) a.embedded a.index (sym c.member.ensures ∙ c.if-not-member.false)
