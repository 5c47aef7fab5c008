-- `long_imports::import_told` meets its contract: the loop is asked, the recording's answer comes after it, and the rows are joined. Assumes nothing.
use lib.ListN.{length}
use Rattle.rows.specs.Table.{table}
use Rattle.unit_lists.specs.Sequence.{lists}
use Rattle.join_answers.specs.Joining.{room_of, most_long}
use Rattle.join_answers.specs.Steps.{spaces}
use Rattle.long_imports.proofs.Whole.{told}
use Rattle.long_imports.proofs.import_told.Goals as goal

pub returns : goal.returns
returns c =
    let a = c.args in
    let t = table a.indices.now a.decodings.now a.matches.now in
    let before = lists a.numbers.now a.lags.now a.sizes.now in
    let most = most_long (spaces (length a.order.now) (length a.keys.now) (length a.kept.now) (length a.places.now) (length a.heads.now) (length a.claimed.now) (length a.used.now)) in
    let all_of_it = told a.bytes.now a.target a.recording t most (room_of before) before c.ask-asked.ensures c.rows_for-rows.ensures c.join_held.ensures.answer c.join_held.ensures.content in record {
      answer = all_of_it.0;
      content = all_of_it.1;
    }
