-- `read_mvc_extension` meets its contract: at bytes, each value of the table is the quotient or remainder that the code takes.
-- Assumes nothing.
use native.Mathlib.Omega.{arith}
use Rattle.mvc_extension.proofs.Bytes.{mvc_extension_bytes}
use Rattle.mvc_extension.proofs.read_mvc_extension.Goals as goal

pub overflow_mul-result : goal.overflow_mul-result
overflow_mul-result c =
    let known = c.shared_slice_known-9-1.given in omega (arith, known 0, known 1, known 2, known 3, known 4, known 5, known 6, c.from-average_high.ensures, c.from-average_low.ensures, c.from-maximum_high.ensures, c.from-maximum_low.ensures, c.from-first.ensures, c.from-second.ensures, c.from-third.ensures)

pub overflow_add-result : goal.overflow_add-result
overflow_add-result c =
    let known = c.shared_slice_known-9-1.given in omega (arith, known 0, known 1, known 2, known 3, known 4, known 5, known 6, c.from-average_high.ensures, c.from-average_low.ensures, c.from-maximum_high.ensures, c.from-maximum_low.ensures, c.from-first.ensures, c.from-second.ensures, c.from-third.ensures)

pub overflow_mul-result-2 : goal.overflow_mul-result-2
overflow_mul-result-2 c =
    let known = c.shared_slice_known-9-1.given in omega (arith, known 0, known 1, known 2, known 3, known 4, known 5, known 6, c.from-average_high.ensures, c.from-average_low.ensures, c.from-maximum_high.ensures, c.from-maximum_low.ensures, c.from-first.ensures, c.from-second.ensures, c.from-third.ensures)

pub overflow_add-result-2 : goal.overflow_add-result-2
overflow_add-result-2 c =
    let known = c.shared_slice_known-9-1.given in omega (arith, known 0, known 1, known 2, known 3, known 4, known 5, known 6, c.from-average_high.ensures, c.from-average_low.ensures, c.from-maximum_high.ensures, c.from-maximum_low.ensures, c.from-first.ensures, c.from-second.ensures, c.from-third.ensures)

pub overflow_add-result-4 : goal.overflow_add-result-4
overflow_add-result-4 c =
    let known = c.shared_slice_known-9-1.given in omega (arith, known 0, known 1, known 2, known 3, known 4, known 5, known 6, c.from-average_high.ensures, c.from-average_low.ensures, c.from-maximum_high.ensures, c.from-maximum_low.ensures, c.from-first.ensures, c.from-second.ensures, c.from-third.ensures)

pub returns : goal.returns
returns c =
    let a = c.args in
    rw (c.from-average_high.ensures, c.from-average_low.ensures, c.from-maximum_high.ensures, c.from-maximum_low.ensures, c.from-first.ensures, c.from-second.ensures, c.from-third.ensures) (mvc_extension_bytes a.payload.now (λ i. omega (arith, c.shared_slice_known-9-1.given i)))
