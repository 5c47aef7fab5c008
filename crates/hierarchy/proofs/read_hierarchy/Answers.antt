-- `read_hierarchy` meets its contract: at bytes, each value of the table is the quotient or remainder that the code takes.
-- Assumes nothing.
use native.Mathlib.Omega.{arith}
use Rattle.hierarchy.proofs.Bytes.{hierarchy_bytes}
use Rattle.hierarchy.proofs.read_hierarchy.Goals as goal

pub returns : goal.returns
returns c =
    let a = c.args in
    rw c.no_view.ensures (hierarchy_bytes a.payload.now (λ i. omega (arith, c.shared_slice_known-5-1.given i)) a.reading)
