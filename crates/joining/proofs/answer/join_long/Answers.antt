-- `joining::answer::join_long` meets its contract: the two cases of the definition are the two answers of `closure_of`, and the work space holds as many rows as there
-- may be. Assumes nothing.
use Prim.Native.Nat.{ℕ}
use mathlib.Core.Path.{sym, ◌∙◌}
use lib.ListN.{length}
use Rattle.rows.specs.Table.{table}
use Rattle.heads.proofs.Orderly.{closed}
use Rattle.unit_lists.specs.Sequence.{lists}
use Rattle.join_answers.specs.Joining.{room_of, most_long}
use Rattle.join_answers.specs.Steps.{spaces}
use Rattle.joining.proofs.Held.{most_held}
use Rattle.joining.proofs.Answering.{same_lists}
use Rattle.joining.proofs.answer.join_long.Goals as goal
use Rattle.joining.proofs.answer.join_long.Goals.{After-most_long-most}

-- how many rows there may be
abbrev most : After-most_long-most → ℕ
most c =
    most_long (spaces (length c.args.order.now) (length c.args.keys.now) (length c.args.kept.now) (length c.args.places.now) (length c.args.heads.now)
    (length c.args.claimed.now) (length c.args.used.now))

pub join_table-requires : goal.join_table-requires
join_table-requires c = (
  closed _ _ _ (sym c.closure_of.ensures ∙ c.in_ok-set.was),
  most_held _ _ _ _ _ _ _ _ c.most_long-most.ensures,
)

pub shape_of-order : goal.shape_of-order
shape_of-order c = c.order-1.given

pub shape_of-keys : goal.shape_of-keys
shape_of-keys c = c.keys-1.given

pub shape_of-kept : goal.shape_of-kept
shape_of-kept c = c.kept-1.given

pub shape_of-places : goal.shape_of-places
shape_of-places c = c.places-1.given

pub shape_of-heads : goal.shape_of-heads
shape_of-heads c = c.heads-1.given

pub shape_of-claimed : goal.shape_of-claimed
shape_of-claimed c = c.claimed-1.given

pub shape_of-used : goal.shape_of-used
shape_of-used c = c.used-1.given

pub shape_of-numbers : goal.shape_of-numbers
shape_of-numbers c = c.numbers-1.given

pub shape_of-lags : goal.shape_of-lags
shape_of-lags c = c.lags-1.given

pub shape_of-sizes : goal.shape_of-sizes
shape_of-sizes c = c.sizes-1.given

pub returns-clause-content : goal.returns-clause-content
returns-clause-content c =
    let a = c.args in
    let t = table a.indices.now a.decodings.now a.matches.now in
    let before = lists a.numbers.now a.lags.now a.sizes.now in
    c.join_table.ensures.content ∙ same_lists _ a.layers t _ (room_of before) _ c.join_table.ensures.answer before
