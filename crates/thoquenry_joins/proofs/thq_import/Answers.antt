-- `thq_import` meets its contract: which reading was asked for decides.
-- Assumes nothing.
use mathlib.Core.Path.{sym, ◌∙◌, refl, ap}
use Rattle.rows.specs.Table.{table}
use Rattle.unit_lists.specs.Sequence.{lists}
use Rattle.c_answers.specs.Answer.{Asked}
use Rattle.thoquenry_joins.specs.Joins.{import_asked}
use Rattle.thoquenry_joins.proofs.Joined.{left_as}
use Rattle.thoquenry_joins.proofs.thq_import.Goals as goal

pub returns-in-Some : goal.returns-in-Some
returns-in-Some c =
    let a = c.args in
    let t = table a.indices.now a.decodings.now a.matches.now in
    let before = lists a.numbers.now a.lags.now a.sizes.now in
    let all_of_it = left_as (ap (λ (k : Asked). import_asked k a.bytes.now a.target t before a.summary.now)
    (sym c.in-Some.is ∙ c.reading_of-asked.ensures)) (c.import_under.ensures.answer, (c.import_under.ensures.content, c.import_under.ensures.summed)) in record {
      answer = all_of_it.0;
      content = all_of_it.1.0;
      summed = all_of_it.1.1;
    }

pub returns-in-None : goal.returns-in-None
returns-in-None c =
    let a = c.args in
    let t = table a.indices.now a.decodings.now a.matches.now in
    let before = lists a.numbers.now a.lags.now a.sizes.now in
    let all_of_it = left_as (ap (λ (k : Asked). import_asked k a.bytes.now a.target t before a.summary.now)
    (sym c.in-None.is ∙ c.reading_of-asked.ensures)) (c.not_a_call.ensures, (refl, refl)) in record {
      answer = all_of_it.0;
      content = all_of_it.1.0;
      summed = all_of_it.1.1;
    }
