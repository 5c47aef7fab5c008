-- `pes_writer::head_of` meets its contract: byte by byte the table's number, by arithmetic.
-- Assumes nothing.
use native.Mathlib.Omega.{arith}
use Rattle.syntax.proofs.Equations.{each}
use Rattle.pes_writer.proofs.head_of.Goals as goal

pub returns : goal.returns
returns c =
    each (omega arith)
