-- `operation_points::layer_flags_of` meets its contract, by the table. Assumes nothing.
use native.Mathlib.Omega.{arith}
use Rattle.operation_points.proofs.Bytes.{flags_at}
use Rattle.operation_points.proofs.layer_flags_of.Goals as goal

pub returns : goal.returns
returns c = flags_at c.args.byte (omega arith)
