-- `join_long_over` meets its contract: with room for the summary joining itself, without it a joining in lists of its own.
-- Assumes nothing.
use mathlib.Core.Path.{sym, ◌∙◌, ap}
use lib.ListN.{length}
use Rattle.rows.specs.Table.{table}
use Rattle.unit_lists.specs.Sequence.{lists}
use Rattle.join_answers.specs.Joining.{room_of, joined_of, most_long}
use Rattle.join_answers.specs.Steps.{spaces}
use Rattle.thoquenry_joins.proofs.Rooms.{barred, alike_joined}
use Rattle.thoquenry_joins.proofs.Joined.{left_short, left_whole}
use Rattle.thoquenry_joins.proofs.join_long_over.Goals as goal

pub returns-then-summary-lt2 : goal.returns-then-summary-lt2
returns-then-summary-lt2 c =
    let a = c.args in
    let t = table a.indices.now a.decodings.now a.matches.now in
    let before = lists a.numbers.now a.lags.now a.sizes.now in
    let most = most_long (spaces (length a.order.now) (length a.keys.now) (length a.kept.now) (length a.places.now) (length a.heads.now) (length a.claimed.now) (length a.used.now)) in
    let other = c.join_long-joined in
    let all_of_it = left_short a.layers t before a.summary.now (joined_of most a.layers a.target t (room_of before)) other.result _ c.if-summary-lt2.true
    (alike_joined most a.layers a.target t (room_of before) _ ∙ sym (ap barred other.ensures.answer))
    c.without_summary.ensures in record {
      answer = all_of_it.0;
      content = all_of_it.1.0;
      summed = all_of_it.1.1;
    }

pub summarise-requires : goal.summarise-requires
summarise-requires c = c.if-summary-lt2.false

pub returns : goal.returns
returns c =
    let a = c.args in
    let t = table a.indices.now a.decodings.now a.matches.now in
    let before = lists a.numbers.now a.lags.now a.sizes.now in
    let most = most_long (spaces (length a.order.now) (length a.keys.now) (length a.kept.now) (length a.places.now) (length a.heads.now) (length a.claimed.now) (length a.used.now)) in
    let joined = c.join_long-joined-2 in
    let summed = c.summarise in
    let all_of_it = left_whole a.layers t before a.summary.now (joined_of most a.layers a.target t (room_of before)) joined.result _ _ _ c.if-summary-lt2.false
    joined.ensures.answer summed.ensures.answer joined.ensures.content summed.ensures.content in record {
      answer = all_of_it.0;
      content = all_of_it.1.0;
      summed = all_of_it.1.1;
    }
