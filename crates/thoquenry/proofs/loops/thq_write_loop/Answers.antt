-- `loops::thq_write_loop` meets its contract: 25 of every row first, and then the loop writer's answer.
-- Assumes nothing.
use mathlib.Core.Path.{sym, ◌∙◌, ap}
use Rattle.thoquenry.specs.Loops.{loop_written}
use Rattle.thoquenry.proofs.Replies.{answers, buffers, some_wide, none_wide}
use Rattle.thoquenry.proofs.loops.thq_write_loop.Goals as goal

pub returns-then-some_too_wide : goal.returns-then-some_too_wide
returns-then-some_too_wide c =
    let a = c.args in
    let same = some_wide a.entries.now a.out.now (sym c.some_too_wide.ensures ∙ c.if-some_too_wide.true) in record {
      answer = c.refused.ensures ∙ answers same;
      content = buffers same;
    }

pub write_rows-written-requires : goal.write_rows-written-requires
write_rows-written-requires c = sym c.some_too_wide.ensures ∙ c.if-some_too_wide.false

pub returns-in-Ok : goal.returns-in-Ok
returns-in-Ok c =
    let a = c.args in
    let written = c.write_rows-written in
    let same = none_wide a.entries.now a.out.now (sym c.some_too_wide.ensures ∙ c.if-some_too_wide.false) in record {
      answer = c.accepted.ensures ∙ sym (ap loop_written c.in-Ok.is) ∙ ap loop_written written.ensures.0 ∙ answers same;
      content = written.ensures.1 ∙ buffers same;
    }

pub returns-in-Err : goal.returns-in-Err
returns-in-Err c =
    let a = c.args in
    let written = c.write_rows-written in
    let same = none_wide a.entries.now a.out.now (sym c.some_too_wide.ensures ∙ c.if-some_too_wide.false) in record {
      answer = c.refused-in-Err.ensures ∙ sym (ap loop_written c.in-Err.is) ∙ ap loop_written written.ensures.0 ∙ answers same;
      content = written.ensures.1 ∙ buffers same;
    }
