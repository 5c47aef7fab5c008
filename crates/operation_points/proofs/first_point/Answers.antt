-- `operation_points::first_point` meets its contract: each way is a case of the definition (Judging). Assumes nothing.
use native.Mathlib.Omega.{arith}
use Rattle.operation_points.proofs.Judging.{first_short, first_reserved, misfit_count, misfit_rates, misfit_fields, fits_fields}
use Rattle.operation_points.proofs.first_point.Goals as goal

pub returns-then-left-lt2 : goal.returns-then-left-lt2
returns-then-left-lt2 c = first_short c.args.left.now (λ i. (c.shared_slice_known-1.given i).fits) c.if-left-lt2.true

pub returns-then-es_count : goal.returns-then-es_count
returns-then-es_count c = first_reserved c.args.left.now (λ i. (c.shared_slice_known-2-1.given i).fits) c.if-left-lt2.false c.if-es_count.true

pub overflow_add-average_at-2 : goal.overflow_add-average_at-2
overflow_add-average_at-2 c = omega (arith, c.shared_slice_known-2-1.given 1, c.bytes_of.ensures.1)

pub overflow_add-maximum_at : goal.overflow_add-maximum_at
overflow_add-maximum_at c = omega (arith, c.shared_slice_known-2-1.given 1, c.bytes_of.ensures.1, c.bytes_of-2.ensures.1)

pub overflow_add-size : goal.overflow_add-size
overflow_add-size c = omega (arith, c.shared_slice_known-2-1.given 1, c.bytes_of.ensures.1, c.bytes_of-2.ensures.1, c.bytes_of-3.ensures.1)

pub returns-then-left-counted_at : goal.returns-then-left-counted_at
returns-then-left-counted_at c =
    let count = c.from-counted_at.ensures in
    misfit_count c.args.left.now (λ i. (c.shared_slice_known-2-1.given i).fits) c.if-es_count.false (rw count at c.if-left-counted_at.true)

pub returns-then-left-rates_at : goal.returns-then-left-rates_at
returns-then-left-rates_at c =
    let count = c.from-counted_at.ensures in
    let layers = rw count at c.from.ensures in
    misfit_rates c.args.left.now (λ i. (c.shared_slice_known-3-1.given i).fits) c.if-es_count.false (rw (count, layers) at c.if-left-rates_at.true)

pub returns-then-left-size : goal.returns-then-left-size
returns-then-left-size c =
    let count = c.from-counted_at.ensures in
    let layers = rw count at c.from.ensures in
    misfit_fields c.args.left.now (λ i. (c.shared_slice_known-4-1.given i).fits) c.if-es_count.false _ _ _
    (rw (count, layers) at c.bytes_of.ensures.0) (rw (count, layers) at c.bytes_of-2.ensures.0) (rw (count, layers) at c.bytes_of-3.ensures.0)
    (rw (count, layers) at c.if-left-size.true)

pub returns : goal.returns
returns c =
    let count = c.from-counted_at.ensures in
    let layers = rw count at c.from.ensures in
    rw (count, layers) (fits_fields c.args.left.now (λ i. (c.shared_slice_known-4-1.given i).fits) c.if-es_count.false _ _ _
    (rw (count, layers) at c.bytes_of.ensures.0) (rw (count, layers) at c.bytes_of-2.ensures.0) (rw (count, layers) at c.bytes_of-3.ensures.0) _ _ _
    (rw (count, layers) at c.if-left-size.false)
    (rw (count, layers) at c.frame_rate.ensures) (rw (count, layers) at c.bit_rate.ensures) (rw (count, layers) at c.bit_rate-2.ensures))
