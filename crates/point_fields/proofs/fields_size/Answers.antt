-- `fields_size` meets its contract: each field where it is there.
-- Assumes nothing.
use Rattle.point_fields.specs.Fields.{fields_size}
use native.Mathlib.Omega.{arith}
use Rattle.point_fields.proofs.fields_size.Goals as goal

pub returns : goal.returns
unfolding fields_size
returns c = (rw (c.bytes_of.ensures.0, c.bytes_of-2.ensures.0, c.bytes_of-3.ensures.0) (omega arith), omega arith)
