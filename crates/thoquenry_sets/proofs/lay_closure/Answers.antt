-- `lay_closure` meets its contract: the closure where there is room for its set.
-- Assumes nothing.
use Prim.Native.Nat.{ℕ}
use mathlib.Core.Path.{sym, ap, ap₂, ◌∙◌}
use mathlib.Core.List.{[], ◌∷◌}
use Rattle.closure.specs.Answer.{Closure}
use Rattle.sets.specs.Sets.{size}
use Rattle.buffers.specs.Buffers.{over}
use Rattle.buffers.proofs.Laws.{sets_over}
use Rattle.c_answers.specs.Answers.{accepted, reply}
use Rattle.thoquenry_sets.specs.Calls.{closure_laid}
use Rattle.thoquenry_sets.proofs.Replies.{no_room, has_room}
use Rattle.thoquenry_sets.proofs.lay_closure.Goals as goal

pub returns-then-closure-lt1 : goal.returns-then-closure-lt1
returns-then-closure-lt1 c =
    let a = c.args in
    ap (λ (n : ℕ). reply n a.closure.now) c.refused.ensures
    ∙ no_room a.closure.now (reply (accepted (size c.in-Ok.members)) (over (c.in-Ok.members ∷ []) a.closure.now)) c.if-closure-lt1.true
    ∙ sym (ap (λ (f : Closure). closure_laid f a.closure.now) c.in-Ok.is)

pub returns-else-closure-lt1 : goal.returns-else-closure-lt1
returns-else-closure-lt1 c =
    let a = c.args in
    ap₂ reply (c.accepted.ensures ∙ ap accepted c.size.ensures) (sets_over (c.in-Ok.members ∷ []) a.closure.now c.if-closure-lt1.false)
    ∙ has_room a.closure.now (reply (accepted (size c.in-Ok.members)) (over (c.in-Ok.members ∷ []) a.closure.now)) c.if-closure-lt1.false
    ∙ sym (ap (λ (f : Closure). closure_laid f a.closure.now) c.in-Ok.is)

pub returns-in-Err : goal.returns-in-Err
returns-in-Err c =
    let a = c.args in
    ap (λ (n : ℕ). reply n a.closure.now) c.refused-in-Err.ensures
    ∙ sym (ap (λ (f : Closure). closure_laid f a.closure.now) c.in-Err.is)
