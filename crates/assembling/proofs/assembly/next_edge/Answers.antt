-- `assembling::assembly::next_edge` meets its contract: no pair that is passed over is an edge (Skipping).
-- Assumes nothing.
use mathlib.Core.Path.{sym, ◌∙◌, ap}
use Rattle.sets.specs.Sets.{without, lowest}
use Rattle.assembling.proofs.Skipping.{next_outside, next_upper, next_lower}
use Rattle.assembling.proofs.assembly.next_edge.Goals as goal

pub returns-then-not-member : goal.returns-then-not-member
returns-then-not-member c =
    next_outside c.args.closure c.args.embedded c.args.edge _ c.requires c.upper_of-upper.ensures
    (sym c.member.ensures ∙ c.if-not-member.true)

pub returns-then-upper-next : goal.returns-then-upper-next
returns-then-upper-next c =
    next_upper c.args.closure c.args.embedded c.args.edge _ c.requires c.upper_of-upper.ensures _
    (c.from-next.ensures ∙ c.lowest.ensures
    ∙ ap lowest (c.without-left.ensures ∙ ap (without c.args.embedded) c.below.ensures)) c.if-upper-next.true

pub returns : goal.returns
returns c =
    next_lower c.args.closure c.args.embedded c.args.edge _ c.requires c.upper_of-upper.ensures _
    (c.from-next.ensures ∙ c.lowest.ensures
    ∙ ap lowest (c.without-left.ensures ∙ ap (without c.args.embedded) c.below.ensures)) c.if-upper-next.false
