-- `loop_faults::lowest_fault` meets its contract: the tests on the way to each return say which condition holds first.
-- Assumes nothing.
use mathlib.Core.Path.{◌∙◌}
use native.Mathlib.Omega.{arith}
use Rattle.loop_faults.proofs.lowest_fault.Goals as goal

pub returns-then-not-outline : goal.returns-then-not-outline
returns-then-not-outline c = rw c.if-not-outline.true

pub returns-then-pid_seen : goal.returns-then-pid_seen
returns-then-pid_seen c = rw (c.if-not-outline.false, c.if-pid_seen.true)

pub returns-then-outline : goal.returns-then-outline
returns-then-outline c = rw (c.if-not-outline.false, c.if-pid_seen.false, c.if-outline.true)

pub returns-then-outline-2 : goal.returns-then-outline-2
returns-then-outline-2 c = rw (c.if-not-outline.false, c.if-pid_seen.false, c.if-outline.false, c.if-outline-2.true)

pub returns : goal.returns
returns c = rw (c.if-not-outline.false, c.if-pid_seen.false, c.if-outline.false, c.if-outline-2.false) (c.judged_fault.ensures ∙ omega arith)
