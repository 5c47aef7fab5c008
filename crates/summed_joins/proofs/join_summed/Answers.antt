-- `summed_joins::join_summed` meets its contract: with room for the summary joining itself, without it a joining in lists of its own. Assumes nothing.
use lib.ListN.{length}
use Rattle.rows.specs.Table.{table}
use Rattle.unit_lists.specs.Sequence.{lists}
use Rattle.join_answers.specs.Joining.{most_long}
use Rattle.join_answers.specs.Steps.{spaces}
use Rattle.summed_joins.proofs.Held.{held_short, held_whole}
use Rattle.summed_joins.proofs.join_summed.Goals as goal

pub returns-then-summary-lt2 : goal.returns-then-summary-lt2
returns-then-summary-lt2 c =
    let a = c.args in
    let t = table a.indices.now a.decodings.now a.matches.now in
    let before = lists a.numbers.now a.lags.now a.sizes.now in
    let most = most_long (spaces (length a.order.now) (length a.keys.now) (length a.kept.now) (length a.places.now) (length a.heads.now) (length a.claimed.now) (length a.used.now)) in
    let other = c.join_held-imported in
    let all_of_it = held_short most a.layers a.target t a.rows before a.summary.now (record { numbers = 1; lags = 1; sizes = 1 }) other.result c.if-summary-lt2.true
    other.ensures.answer c.without_summary.ensures in record {
      answer = all_of_it.0;
      content = all_of_it.1.0;
      summed = all_of_it.1.1;
    }

pub summarise-requires : goal.summarise-requires
summarise-requires c = c.if-summary-lt2.false

pub returns : goal.returns
returns c =
    let a = c.args in
    let t = table a.indices.now a.decodings.now a.matches.now in
    let before = lists a.numbers.now a.lags.now a.sizes.now in
    let most = most_long (spaces (length a.order.now) (length a.keys.now) (length a.kept.now) (length a.places.now) (length a.heads.now) (length a.claimed.now) (length a.used.now)) in
    let joined = c.join_held-imported-2 in
    let summed = c.summarise in
    let all_of_it = held_whole most a.layers a.target t a.rows before a.summary.now joined.result c.if-summary-lt2.false
    joined.ensures.answer summed.ensures.answer joined.ensures.content summed.ensures.content in record {
      answer = all_of_it.0;
      content = all_of_it.1.0;
      summed = all_of_it.1.1;
    }
