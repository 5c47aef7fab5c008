-- `tally_with` meets its contract.
-- Assumes nothing.
use Rattle.program_points.proofs.Tallying.{parts_of, count_small, tally_point}
use Rattle.program_points.specs.Places.{value_at}
use Rattle.stream_lists.specs.declared.ListBuilt.{ListBuilt}
use mathlib.Core.Path.{sym, subst}
use Prim.Native.Nat.{◌≤◌}
use native.Mathlib.Omega.{arith}
use Rattle.program_points.proofs.tally_with.Goals as goal

pub point_at-point-requires : goal.point_at-point-requires
point_at-point-requires c = (parts_of c.args.program.now (λ i. (c.shared_slice_known-1.given i).fits) c.args.at c.requires.0).at_within

pub overflow_add-result-3 : goal.overflow_add-result-3
overflow_add-result-3 c =
    let small : c.list_at-built.result.list.count ≤ 64 = subst (λ (x : ListBuilt). x.list.count ≤ 64) (sym c.list_at-built.ensures) (count_small c.args.layers (value_at c.args.program.now c.args.at)) in
    omega (arith, small, c.requires.1.streams)

pub returns : goal.returns
returns c =
    let a = c.args in
    let small : c.list_at-built.result.list.count ≤ 64 = subst (λ (x : ListBuilt). x.list.count ≤ 64) (sym c.list_at-built.ensures) (count_small a.layers (value_at a.program.now a.at)) in (
      tally_point a.layers a.tally a.program.now (λ i. (c.shared_slice_known-1.given i).fits) a.at c.requires.0 c.point_at-point.result c.list_at-built.result c.point_at-point.ensures c.list_at-built.ensures,
      record { references = omega arith; flags = omega arith; streams = omega (arith, small) },
    )
