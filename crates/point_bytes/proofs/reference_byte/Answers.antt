-- `reference_byte` meets its contract.
-- Assumes nothing.
use Rattle.point_bytes.proofs.Lists.{reference_written}
use native.Mathlib.Omega.{arith}
use Rattle.point_bytes.proofs.reference_byte.Goals as goal

pub returns : goal.returns
returns c = reference_written c.args.byte (omega arith)
