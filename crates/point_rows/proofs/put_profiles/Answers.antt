-- `put_profiles` meets its contract.
-- Assumes nothing.
use Rattle.point_rows.proofs.Laying.{profiles_part}
use Rattle.buffers.proofs.Laws.{laid_as}
use Rattle.program_points.specs.Places.{head_at}
use Rattle.operation_points.specs.declared.Head.{Head}
use mathlib.Core.Path.{◌≡◌, ap}
use Rattle.program_points.proofs.Tallying.{head_parts}
use native.Mathlib.Omega.{arith}
use Rattle.point_rows.proofs.put_profiles.Goals as goal

pub head_at-head-requires : goal.head_at-head-requires
head_at-head-requires c = (head_parts c.args.program.now (λ i. (c.shared_slice_known-1.given i).fits) c.args.place c.requires).at_within

pub overflow_add-first : goal.overflow_add-first
overflow_add-first c = omega (arith, (head_parts c.args.program.now (λ i. (c.shared_slice_known-1.given i).fits) c.args.place c.requires).profiles, c.well_formed)

pub overflow_add-end : goal.overflow_add-end
overflow_add-end c =
    let same : c.head_at-head.result.num_ptl ≡ (head_at c.args.program.now c.args.place).num_ptl = ap (λ (h : Head). h.num_ptl) c.head_at-head.ensures in
    omega (arith, (head_parts c.args.program.now (λ i. (c.shared_slice_known-1.given i).fits) c.args.place c.requires).profiles, same, c.well_formed)

pub slice_bounds-put-end : goal.slice_bounds-put-end
slice_bounds-put-end c =
    let same : c.head_at-head.result.num_ptl ≡ (head_at c.args.program.now c.args.place).num_ptl = ap (λ (h : Head). h.num_ptl) c.head_at-head.ensures in
    omega (arith, (head_parts c.args.program.now (λ i. (c.shared_slice_known-1.given i).fits) c.args.place c.requires).profiles, same)

pub returns : goal.returns
returns c = laid_as (profiles_part c.args.program.now c.args.place c.head_at-head.result c.head_at-head.ensures) c.put.ensures
