-- `thq_packets_start` meets its contract: lists of other lengths are no call, and else the loop decides. Assumes nothing.
use Rattle.thoquenry_pieces.proofs.Starting.{state_wrong, counts_wrong, loop_begins, loop_refuses}
use Rattle.thoquenry_pieces.proofs.thq_packets_start.Goals as goal

pub returns-then-state-ne-STATE_BYTES : goal.returns-then-state-ne-STATE_BYTES
returns-then-state-ne-STATE_BYTES c = state_wrong c.args.bytes.now c.args.state.now c.args.counts.now c.if-state-ne-STATE_BYTES.true c.not_a_call.ensures

pub returns-then-counts-ne-STATE_NUMBERS : goal.returns-then-counts-ne-STATE_NUMBERS
returns-then-counts-ne-STATE_NUMBERS c = counts_wrong c.args.bytes.now c.args.state.now c.args.counts.now c.if-state-ne-STATE_BYTES.false c.if-counts-ne-STATE_NUMBERS.true c.not_a_call-then-counts-ne-STATE_NUMBERS.ensures

pub returns-in-Ok : goal.returns-in-Ok
returns-in-Ok c = loop_begins c.args.bytes.now c.args.state.now c.args.counts.now c.if-state-ne-STATE_BYTES.false c.if-counts-ne-STATE_NUMBERS.false c.read_table-read.ensures c.in-Ok.is c.begin.ensures

pub returns-in-Err : goal.returns-in-Err
returns-in-Err c = loop_refuses c.args.bytes.now c.args.state.now c.args.counts.now c.if-state-ne-STATE_BYTES.false c.if-counts-ne-STATE_NUMBERS.false c.read_table-read.ensures c.in-Err.is c.refused.ensures
