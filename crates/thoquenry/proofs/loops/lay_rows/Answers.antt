-- `loops::lay_rows` meets its contract: the verdict says whether the rows are laid.
-- Assumes nothing.
use mathlib.Core.Path.{sym, ◌∙◌, ap}
use Rattle.es_loop.specs.Answer.{Verdict}
use Rattle.loop_entries.specs.Entries.{streams_of}
use Rattle.es_loop.specs.Reading.{answer_by}
use Rattle.thoquenry.specs.Loops.{rows_read}
use Rattle.thoquenry.proofs.Replies.{answers, buffers, counted, laid_accepted}
use Rattle.thoquenry.proofs.loops.lay_rows.Goals as goal

pub lay_accepted-requires : goal.lay_accepted-requires
lay_accepted-requires c = sym c.judge.ensures ∙ c.in-Ok.is

pub returns-in-Err : goal.returns-in-Err
returns-in-Err c =
    let a = c.args in
    let same =
    ap (λ (v : Verdict). rows_read (answer_by (streams_of a.reading a.bytes.now) v) a.entries.now)
    (sym c.in-Err.is ∙ c.judge.ensures) in record {
      answer = c.refused.ensures ∙ answers same;
      content = buffers same;
    }

pub returns-in-Ok : goal.returns-in-Ok
returns-in-Ok c =
    let a = c.args in
    let verdict = sym c.judge.ensures ∙ c.in-Ok.is in
    let laid = c.lay_accepted in
    let same =
    laid_accepted (streams_of a.reading a.bytes.now) c.in-Ok.judged.count c.in-Ok.judged.pair a.entries.now
    (counted a.reading a.bytes.now c.in-Ok.judged.count c.in-Ok.judged.pair verdict)
    ∙ ap (λ (v : Verdict). rows_read (answer_by (streams_of a.reading a.bytes.now) v) a.entries.now) (sym verdict) in record {
      answer = laid.ensures.answer ∙ answers same;
      content = laid.ensures.content ∙ buffers same;
    }
