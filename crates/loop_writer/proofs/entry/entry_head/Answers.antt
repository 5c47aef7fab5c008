-- `entry_head` meets its contract: the bytes of values that fit.
-- Assumes nothing.
use native.Mathlib.Omega.{arith}
use Rattle.loop_writer.proofs.Entries.{head_written}
use Rattle.loop_writer.proofs.entry.entry_head.Goals as goal

pub returns : goal.returns
returns c = head_written c.args.stream_type c.args.pid c.args.info_length (omega arith) (omega arith) (omega arith)
