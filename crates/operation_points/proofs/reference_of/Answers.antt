-- `operation_points::reference_of` meets its contract, by the table. Assumes nothing.
use native.Mathlib.Omega.{arith}
use Rattle.operation_points.proofs.Bytes.{reference_at}
use Rattle.operation_points.proofs.reference_of.Goals as goal

pub returns : goal.returns
returns c = reference_at c.args.byte (omega arith)
