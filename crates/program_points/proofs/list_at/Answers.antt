-- `list_at` meets its contract.
-- Assumes nothing.
use Rattle.program_points.proofs.Tallying.{parts_of, list_there}
use Rattle.program_points.specs.Places.{point_at}
use Rattle.operation_points.specs.declared.Point.{Point}
use mathlib.Core.Path.{◌≡◌, ap, ◌∙◌}
use native.Mathlib.Omega.{arith}
use Rattle.program_points.proofs.list_at.Goals as goal

pub point_at-point-requires : goal.point_at-point-requires
point_at-point-requires c = (parts_of c.args.program.now (λ i. (c.shared_slice_known-1.given i).fits) c.args.at c.requires).at_within

pub overflow_add-first : goal.overflow_add-first
overflow_add-first c = omega (arith, (parts_of c.args.program.now (λ i. (c.shared_slice_known-1.given i).fits) c.args.at c.requires).references, c.well_formed)

pub overflow_add-end : goal.overflow_add-end
overflow_add-end c =
    let q = parts_of c.args.program.now (λ i. (c.shared_slice_known-1.given i).fits) c.args.at c.requires in
    let same : c.point_at-point.result.es_count ≡ (point_at c.args.program.now c.args.at).es_count = ap (λ (p : Point). p.es_count) c.point_at-point.ensures in
    omega (arith, q.references, same, c.well_formed)

pub slice_bounds-stream_list-end : goal.slice_bounds-stream_list-end
slice_bounds-stream_list-end c =
    let q = parts_of c.args.program.now (λ i. (c.shared_slice_known-1.given i).fits) c.args.at c.requires in
    let same : c.point_at-point.result.es_count ≡ (point_at c.args.program.now c.args.at).es_count = ap (λ (p : Point). p.es_count) c.point_at-point.ensures in
    omega (arith, q.references, same, c.well_formed)

pub returns : goal.returns
returns c =
    let a = c.args in
    c.stream_list.ensures ∙ list_there a.layers a.program.now (λ i. (c.shared_slice_known-1.given i).fits) a.at c.requires c.point_at-point.result.es_count (ap (λ (p : Point). p.es_count) c.point_at-point.ensures)
