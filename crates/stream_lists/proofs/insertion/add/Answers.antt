-- `stream_lists::insertion::add` meets its contract: the index stands in the list, or is stored behind it. Assumes nothing.
use mathlib.Core.Path.{sym, ◌∙◌}
use Rattle.stream_lists.proofs.Inserting.{add_present, add_room, add_absent}
use Rattle.stream_lists.proofs.insertion.add.Goals as goal

pub returns-then-member : goal.returns-then-member
returns-then-member c = add_present _ _ _ _ c.requires (sym c.member.ensures ∙ c.if-member.true)

pub bounds-members-count : goal.bounds-members-count
bounds-members-count c = add_room _ _ _ _ c.requires (sym c.member.ensures ∙ c.if-member.false)

pub returns : goal.returns
returns c = add_absent _ _ _ _ c.requires (sym c.member.ensures ∙ c.if-member.false)
