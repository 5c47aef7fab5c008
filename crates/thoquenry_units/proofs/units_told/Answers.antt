-- `units_told` meets its contract: with room for the summary the import itself, without it an import in lists of its own. Assumes nothing.
use lib.ListN.{length}
use Rattle.rows.specs.Table.{table}
use Rattle.unit_lists.specs.Sequence.{lists}
use Rattle.join_answers.specs.Joining.{most_long}
use Rattle.join_answers.specs.Steps.{spaces}
use Rattle.thoquenry_units.proofs.Replies.{told_short, told_whole}
use Rattle.thoquenry_units.proofs.units_told.Goals as goal

pub returns-then-summary-lt2 : goal.returns-then-summary-lt2
returns-then-summary-lt2 c =
    let a = c.args in
    let t = table a.indices.now a.decodings.now a.matches.now in
    let before = lists a.numbers.now a.lags.now a.sizes.now in
    let most = most_long (spaces (length a.order.now) (length a.keys.now) (length a.kept.now) (length a.places.now) (length a.heads.now) (length a.claimed.now) (length a.used.now)) in
    let all_of_it = told_short most a.bytes.now a.target a.recording t before a.summary.now _ c.if-summary-lt2.true c.import_told-imported.ensures.answer c.without_summary.ensures in record {
      answer = all_of_it.0;
      content = all_of_it.1.0;
      summed = all_of_it.1.1;
    }

pub returns : goal.returns
returns c =
    let a = c.args in
    let t = table a.indices.now a.decodings.now a.matches.now in
    let before = lists a.numbers.now a.lags.now a.sizes.now in
    let most = most_long (spaces (length a.order.now) (length a.keys.now) (length a.kept.now) (length a.places.now) (length a.heads.now) (length a.claimed.now) (length a.used.now)) in
    let all_of_it = told_whole most a.bytes.now a.target a.recording t before a.summary.now c.if-summary-lt2.false c.import_told-imported-2.ensures.answer c.summarise.ensures.answer c.import_told-imported-2.ensures.content c.summarise.ensures.content in record {
      answer = all_of_it.0;
      content = all_of_it.1.0;
      summed = all_of_it.1.1;
    }
