-- `decide` meets its contract: the tests in turn.
-- Assumes nothing.
use mathlib.Core.Path.{sym}
use borrow.Author.Tests.{lt-ltb, le-ltb}
use Rattle.loop_writer.proofs.writer.decide.Goals as goal

pub returns-then-size-gt-MOST_BYTES : goal.returns-then-size-gt-MOST_BYTES
returns-then-size-gt-MOST_BYTES c =
    let weighed = c.args.weighed in
    sym (rw (lt-ltb 1008 weighed.size c.if-size-gt-MOST_BYTES.true))

pub returns-then-fault-lt-NO_FAULT : goal.returns-then-fault-lt-NO_FAULT
returns-then-fault-lt-NO_FAULT c =
    let weighed = c.args.weighed in
    rw (c.refusal_of.ensures, le-ltb 1008 weighed.size c.if-size-gt-MOST_BYTES.false, lt-ltb weighed.fault.number 10 c.if-fault-lt-NO_FAULT.true)

pub returns-then-room-size : goal.returns-then-room-size
returns-then-room-size c =
    let a = c.args in
    let weighed = a.weighed in
    sym (rw (le-ltb 1008 weighed.size c.if-size-gt-MOST_BYTES.false, le-ltb weighed.fault.number 10 c.if-fault-lt-NO_FAULT.false, lt-ltb a.room weighed.size c.if-room-size.true))

pub returns : goal.returns
returns c =
    let a = c.args in
    let weighed = a.weighed in
    sym (rw (le-ltb 1008 weighed.size c.if-size-gt-MOST_BYTES.false, le-ltb weighed.fault.number 10 c.if-fault-lt-NO_FAULT.false, le-ltb a.room weighed.size c.if-room-size.false))
