-- `descriptor_head` meets its contract: a byte is its own value.
-- Assumes nothing.
use native.Mathlib.Omega.{arith}
use Rattle.descriptor_heads.proofs.Heads.{head_written}
use Rattle.descriptor_heads.proofs.descriptor_head.Goals as goal

pub returns : goal.returns
returns c = head_written c.args.tag c.args.length (omega arith) (omega arith)
