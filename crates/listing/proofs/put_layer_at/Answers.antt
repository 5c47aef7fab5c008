-- `put_layer_at` meets its contract: the two cases of the definition are the two ways of the code.
-- Assumes nothing.
use mathlib.Core.Path.{sym, ◌∙◌}
use Rattle.text.proofs.Laws.{laid_as}
use Rattle.listing.proofs.FromSet.{set_line_lem, no_set_line}
use Rattle.listing.proofs.put_layer_at.Goals as goal

-- LEFT: no goal of today has the name overflow-cast-t20
-- cast-t20 : tie.Need-overflow-cast-t20
-- cast-t20 c = search rules

pub returns-then-member : goal.returns-then-member
returns-then-member c =
    let a = c.args in
    laid_as
    (set_line_lem a.kept a.index c.channel-channel.result c.closure-closure.result (sym c.member.ensures ∙ c.if-member.true) c.channel-channel.ensures c.closure-closure.ensures)
    c.put_layer.ensures

-- LEFT: no goal of today has the name slice-aggregate-put
-- slice-aggregate-put : tie.Need-slice-aggregate-put
-- slice-aggregate-put c = search rules

pub returns : goal.returns
returns c =
    let a = c.args in
    laid_as (no_set_line a.kept a.index (sym c.member.ensures ∙ c.if-member.false)) c.put.ensures
