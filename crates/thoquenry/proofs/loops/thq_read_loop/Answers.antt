-- `loops::thq_read_loop` meets its contract: which reading was asked for decides.
-- Assumes nothing.
use mathlib.Core.Path.{sym, ◌∙◌, ap}
use Rattle.c_answers.specs.Answer.{Asked}
use Rattle.thoquenry.specs.Loops.{rows_asked}
use Rattle.thoquenry.proofs.Replies.{answers, buffers}
use Rattle.thoquenry.proofs.loops.thq_read_loop.Goals as goal

pub returns-in-Some : goal.returns-in-Some
returns-in-Some c =
    let a = c.args in
    let laid = c.lay_rows in
    let same = ap (λ (k : Asked). rows_asked k a.bytes.now a.entries.now) (sym c.in-Some.is ∙ c.reading_of-asked.ensures) in record {
      answer = laid.ensures.answer ∙ answers same;
      content = laid.ensures.content ∙ buffers same;
    }

pub returns-in-None : goal.returns-in-None
returns-in-None c =
    let a = c.args in
    let same = ap (λ (k : Asked). rows_asked k a.bytes.now a.entries.now) (sym c.in-None.is ∙ c.reading_of-asked.ensures) in record {
      answer = c.not_a_call.ensures ∙ answers same;
      content = buffers same;
    }
