-- `listing::put_member` meets its contract: the two cases of the definition are the two ways of the code.
-- Assumes nothing.
use mathlib.Core.Path.{sym, ◌∙◌}
use Rattle.text.proofs.Laws.{laid_as}
use Rattle.listing.proofs.Laws.{member_there, member_not_there}
use Rattle.listing.proofs.put_member.Goals as goal

-- LEFT: no goal of today has the name slice-aggregate-put-labelled
-- slice-aggregate-put-labelled : tie.Need-slice-aggregate-put-labelled
-- slice-aggregate-put-labelled c = search rules

pub returns-then-member : goal.returns-then-member
returns-then-member c =
    let a = c.args in
    laid_as (member_there a.set a.index (sym c.member.ensures ∙ c.if-member.true))
    c.put_labelled.ensures

-- LEFT: no goal of today has the name slice-aggregate-put
-- slice-aggregate-put : tie.Need-slice-aggregate-put
-- slice-aggregate-put c = search rules

pub returns : goal.returns
returns c =
    let a = c.args in
    laid_as (member_not_there a.set a.index (sym c.member.ensures ∙ c.if-member.false))
    c.put.ensures
