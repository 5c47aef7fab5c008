-- `loops::thq_closure` meets its contract: which reading was asked for decides.
-- Assumes nothing.
use mathlib.Core.Path.{sym, ◌∙◌, ap}
use Rattle.closure.specs.Answer.{Closure}
use Rattle.c_answers.specs.Answer.{Asked}
use Rattle.thoquenry.specs.Loops.{closure_laid, closure_asked}
use Rattle.thoquenry.proofs.Replies.{answers, buffers}
use Rattle.thoquenry.proofs.loops.thq_closure.Goals as goal

pub returns-in-Some : goal.returns-in-Some
returns-in-Some c =
    let a = c.args in
    let laid = c.lay_closure in
    let same =
    ap (λ (f : Closure). closure_laid f a.set.now) c.closure_of_loop.ensures
    ∙ ap (λ (k : Asked). closure_asked k a.bytes.now a.target a.set.now) (sym c.in-Some.is ∙ c.reading_of-asked.ensures) in record {
      answer = laid.ensures.answer ∙ answers same;
      content = laid.ensures.content ∙ buffers same;
    }

pub returns-in-None : goal.returns-in-None
returns-in-None c =
    let a = c.args in
    let same = ap (λ (k : Asked). closure_asked k a.bytes.now a.target a.set.now) (sym c.in-None.is ∙ c.reading_of-asked.ensures) in record {
      answer = c.not_a_call.ensures ∙ answers same;
      content = buffers same;
    }
