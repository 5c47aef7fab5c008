-- `put_flags` meets its contract.
-- Assumes nothing.
use Rattle.point_rows.proofs.Laying.{flags_part}
use Rattle.buffers.proofs.Laws.{laid_as}
use Rattle.program_points.specs.Places.{point_at}
use Rattle.operation_points.specs.declared.Point.{Point}
use mathlib.Core.Path.{◌≡◌, ap}
use Rattle.program_points.proofs.Tallying.{parts_of}
use native.Mathlib.Omega.{arith}
use Rattle.point_rows.proofs.put_flags.Goals as goal

pub point_at-point-requires : goal.point_at-point-requires
point_at-point-requires c = (parts_of c.args.program.now (λ i. (c.shared_slice_known-1.given i).fits) c.args.place c.requires).at_within

pub overflow_add-first : goal.overflow_add-first
overflow_add-first c =
    let same : c.point_at-point.result.flags_at ≡ (point_at c.args.program.now c.args.place).flags_at = ap (λ (h : Point). h.flags_at) c.point_at-point.ensures in
    let many : c.point_at-point.result.num_es_in_op ≡ (point_at c.args.program.now c.args.place).num_es_in_op = ap (λ (h : Point). h.num_es_in_op) c.point_at-point.ensures in
    omega (arith, (parts_of c.args.program.now (λ i. (c.shared_slice_known-1.given i).fits) c.args.place c.requires).flags, same, c.well_formed)

pub overflow_add-end : goal.overflow_add-end
overflow_add-end c =
    let same : c.point_at-point.result.flags_at ≡ (point_at c.args.program.now c.args.place).flags_at = ap (λ (h : Point). h.flags_at) c.point_at-point.ensures in
    let many : c.point_at-point.result.num_es_in_op ≡ (point_at c.args.program.now c.args.place).num_es_in_op = ap (λ (h : Point). h.num_es_in_op) c.point_at-point.ensures in
    omega (arith, (parts_of c.args.program.now (λ i. (c.shared_slice_known-1.given i).fits) c.args.place c.requires).flags, same, many, c.well_formed)

pub slice_bounds-put-end : goal.slice_bounds-put-end
slice_bounds-put-end c =
    let same : c.point_at-point.result.flags_at ≡ (point_at c.args.program.now c.args.place).flags_at = ap (λ (h : Point). h.flags_at) c.point_at-point.ensures in
    let many : c.point_at-point.result.num_es_in_op ≡ (point_at c.args.program.now c.args.place).num_es_in_op = ap (λ (h : Point). h.num_es_in_op) c.point_at-point.ensures in
    omega (arith, (parts_of c.args.program.now (λ i. (c.shared_slice_known-1.given i).fits) c.args.place c.requires).flags, same, many)

pub returns : goal.returns
returns c = laid_as (flags_part c.args.program.now c.args.place (λ i. (c.shared_slice_known-1.given i).fits) c.point_at-point.result c.point_at-point.ensures) c.put.ensures
