-- `implied::view_next` meets its contract: the branches say whether the entry is one of the two views.
-- Assumes nothing.
use borrow.Author.Tests.{ne_eqb}
use Rattle.implied.proofs.view_next.Goals as goal

pub returns-then-stream_type-eq27 : goal.returns-then-stream_type-eq27
returns-then-stream_type-eq27 c = rw c.if-stream_type-eq27.true c.avc_next.ensures

pub returns-then-stream_type-eq32 : goal.returns-then-stream_type-eq32
returns-then-stream_type-eq32 c =
    let t = c.args.stream_type in
    rw (ne_eqb t 0x1B c.if-stream_type-eq27.false, c.if-stream_type-eq32.true) c.mvc_next.ensures

pub returns : goal.returns
returns c =
    let t = c.args.stream_type in
    rw (ne_eqb t 0x1B c.if-stream_type-eq27.false, ne_eqb t 0x20 c.if-stream_type-eq32.false)
