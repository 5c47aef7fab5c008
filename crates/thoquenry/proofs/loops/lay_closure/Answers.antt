-- `loops::lay_closure` meets its contract: the closure where there is room for its set.
-- Assumes nothing.
use mathlib.Core.Path.{sym, ◌∙◌, ap}
use mathlib.Core.List.{[], ◌∷◌}
use Rattle.closure.specs.Answer.{Closure}
use Rattle.sets.specs.Sets.{size}
use Rattle.buffers.specs.Buffers.{over}
use Rattle.buffers.proofs.Laws.{sets_over}
use Rattle.c_answers.specs.Answers.{accepted, reply}
use Rattle.thoquenry.specs.Loops.{closure_laid}
use Rattle.thoquenry.proofs.Replies.{answers, buffers, no_room, has_room}
use Rattle.thoquenry.proofs.loops.lay_closure.Goals as goal

pub returns-then-set-lt1 : goal.returns-then-set-lt1
returns-then-set-lt1 c =
    let a = c.args in
    let same =
    no_room 1 a.set.now (reply (accepted (size c.in-Ok.members)) (over (c.in-Ok.members ∷ []) a.set.now)) c.if-set-lt1.true
    ∙ sym (ap (λ (f : Closure). closure_laid f a.set.now) c.in-Ok.is) in record {
      answer = c.refused.ensures ∙ answers same;
      content = buffers same;
    }

pub returns-else-set-lt1 : goal.returns-else-set-lt1
returns-else-set-lt1 c =
    let a = c.args in
    let same =
    has_room 1 a.set.now (reply (accepted (size c.in-Ok.members)) (over (c.in-Ok.members ∷ []) a.set.now)) c.if-set-lt1.false
    ∙ sym (ap (λ (f : Closure). closure_laid f a.set.now) c.in-Ok.is) in record {
      answer = c.accepted.ensures ∙ ap accepted c.size.ensures ∙ answers same;
      content = sets_over (c.in-Ok.members ∷ []) a.set.now c.if-set-lt1.false ∙ buffers same;
    }

pub returns-in-Err : goal.returns-in-Err
returns-in-Err c =
    let a = c.args in
    let same = sym (ap (λ (f : Closure). closure_laid f a.set.now) c.in-Err.is) in record {
      answer = c.refused-in-Err.ensures ∙ answers same;
      content = buffers same;
    }
