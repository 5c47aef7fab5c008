-- `put_references` meets its contract.
-- Assumes nothing.
use Rattle.point_rows.proofs.Laying.{references_part}
use Rattle.buffers.proofs.Laws.{laid_as}
use lib.ListN.{length, take, drop, length-map}
use Prim.Native.Nat.{ℕ, ◌+◌, ◌-◌, ◌%◌}
use Rattle.program_points.specs.Places.{point_at}
use Rattle.operation_points.specs.declared.Point.{Point}
use mathlib.Core.Path.{◌≡◌, ap}
use Rattle.program_points.proofs.Tallying.{parts_of}
use native.Mathlib.Omega.{arith}
use Rattle.point_rows.proofs.put_references.Goals as goal

pub point_at-point-requires : goal.point_at-point-requires
point_at-point-requires c = (parts_of c.args.program.now (λ i. (c.shared_slice_known-1.given i).fits) c.args.place c.requires.0).at_within

pub overflow_add-first : goal.overflow_add-first
overflow_add-first c = omega (arith, (parts_of c.args.program.now (λ i. (c.shared_slice_known-1.given i).fits) c.args.place c.requires.0).references, c.well_formed)

pub overflow_add-end : goal.overflow_add-end
overflow_add-end c =
    let same : c.point_at-point.result.es_count ≡ (point_at c.args.program.now c.args.place).es_count = ap (λ (h : Point). h.es_count) c.point_at-point.ensures in
    omega (arith, (parts_of c.args.program.now (λ i. (c.shared_slice_known-1.given i).fits) c.args.place c.requires.0).references, same, c.well_formed)

pub slice_bounds-put_masked-end : goal.slice_bounds-put_masked-end
slice_bounds-put_masked-end c =
    let same : c.point_at-point.result.es_count ≡ (point_at c.args.program.now c.args.place).es_count = ap (λ (h : Point). h.es_count) c.point_at-point.ensures in
    omega (arith, (parts_of c.args.program.now (λ i. (c.shared_slice_known-1.given i).fits) c.args.place c.requires.0).references, same)

pub put_masked-requires : goal.put_masked-requires
put_masked-requires c =
    let a = c.args in
    let part = references_part a.program.now a.place (λ i. (c.shared_slice_known-1.given i).fits) c.point_at-point.result c.point_at-point.ensures in
    omega (arith, c.requires.1, ap length part, length-map (take (a.place + 2 + c.point_at-point.result.es_count - (a.place + 2)) (drop (a.place + 2) a.program.now)) (λ (byte : ℕ). byte % 128))

pub returns : goal.returns
returns c = laid_as (references_part c.args.program.now c.args.place (λ i. (c.shared_slice_known-1.given i).fits) c.point_at-point.result c.point_at-point.ensures) c.put_masked.ensures
