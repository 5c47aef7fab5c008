-- `read_extension` meets its contract: at bytes, each value of the table is the quotient or remainder that the code takes.
-- Assumes nothing.
use native.Mathlib.Omega.{arith}
use Rattle.extension.proofs.Bytes.{extension_bytes}
use Rattle.extension.proofs.read_extension.Goals as goal

pub overflow_mul-result : goal.overflow_mul-result
overflow_mul-result c =
    let known = c.shared_slice_known-7-1.given in
    omega (arith, known 1, known 2, c.from-high.ensures, c.from-low.ensures)

pub overflow_add-result : goal.overflow_add-result
overflow_add-result c =
    let known = c.shared_slice_known-7-1.given in
    omega (arith, known 1, known 2, c.from-high.ensures, c.from-low.ensures)

pub overflow_add-result-2 : goal.overflow_add-result-2
overflow_add-result-2 c = omega (arith, c.shared_slice_known-7-1.given 4)

pub returns : goal.returns
returns c =
    let a = c.args in
    rw (c.from-high.ensures, c.from-low.ensures)
    (extension_bytes a.payload.now (λ i. omega (arith, c.shared_slice_known-7-1.given i)))
