-- `loop_faults::lower` meets its contract: the branch says which number is the lower.
-- Assumes nothing.
use mathlib.Core.Path.{sym, ap}
use mathlib.Core.Bool.{Bool, cond}
use borrow.Author.Tests.{lt-ltb, le-ltb}
use Rattle.loop_faults.proofs.lower.Goals as goal

pub returns-then-number-so_far : goal.returns-then-number-so_far
returns-then-number-so_far c =
    let a = c.args in
    sym (ap (λ (b : Bool). cond b (record { number = a.number; place = a.place }) a.so_far) (lt-ltb a.number a.so_far.number c.if-number-so_far.true))

pub returns : goal.returns
returns c =
    let a = c.args in
    sym (ap (λ (b : Bool). cond b (record { number = a.number; place = a.place }) a.so_far) (le-ltb a.number a.so_far.number c.if-number-so_far.false))
