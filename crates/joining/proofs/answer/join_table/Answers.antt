-- `joining::answer::join_table` meets its contract: each arm is a case of the definition by the verdict on the table.
-- Assumes nothing.
use mathlib.Core.Path.{sym, ◌∙◌}
use Rattle.rows.specs.Table.{Table, table}
use Rattle.rows.proofs.Verdicts.{sound, shape_short}
use Rattle.heads.proofs.Orderly.{orderly_by}
use Rattle.unit_lists.specs.Sequence.{lists}
use Rattle.join_answers.specs.Answer.{Joined}
use Rattle.join_answers.specs.Joining.{frame_of, units_joined, room_of}
use Rattle.joining.proofs.Held.{fewer_held}
use Rattle.joining.proofs.answer.join_table.Goals as goal
use Rattle.joining.proofs.answer.join_table.Goals.{After-judge}

abbrev table_in : After-judge → Table
table_in c = table c.args.indices.now c.args.decodings.now c.args.matches.now

-- the answer for a table in order
abbrev units : After-judge → Joined
units c =
    units_joined (table_in c) (frame_of c.args.layers c.args.closure (table_in c))
    (room_of (lists c.args.numbers.now c.args.lags.now c.args.sizes.now))

pub join_ordered-requires : goal.join_ordered-requires
join_ordered-requires c =
    let a = c.args in
    let known = sound a.most (table_in (goal.at.join_ordered-requires c).After-judge) a.closure (sym c.judge.ensures ∙ c.in_ok-judge.was) in (
      (a.target, orderly_by a.layers a.target a.closure c.requires.0 a.most (table_in (goal.at.join_ordered-requires c).After-judge) known),
      fewer_held _ _ _ _ _ _ _ _ _ c.requires.1 (shape_short a.most (table_in (goal.at.join_ordered-requires c).After-judge) known.shape),
    )

pub shape_of-order : goal.shape_of-order
shape_of-order c = c.order-1.given

pub shape_of-keys : goal.shape_of-keys
shape_of-keys c = c.keys-1.given

pub shape_of-kept : goal.shape_of-kept
shape_of-kept c = c.kept-1.given

pub shape_of-places : goal.shape_of-places
shape_of-places c = c.places-1.given

pub shape_of-heads : goal.shape_of-heads
shape_of-heads c = c.heads-1.given

pub shape_of-claimed : goal.shape_of-claimed
shape_of-claimed c = c.claimed-1.given

pub shape_of-used : goal.shape_of-used
shape_of-used c = c.used-1.given

pub shape_of-numbers : goal.shape_of-numbers
shape_of-numbers c = c.numbers-1.given

pub shape_of-lags : goal.shape_of-lags
shape_of-lags c = c.lags-1.given

pub shape_of-sizes : goal.shape_of-sizes
shape_of-sizes c = c.sizes-1.given
