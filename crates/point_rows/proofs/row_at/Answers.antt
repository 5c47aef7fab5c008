-- `row_at` meets its contract.
-- Assumes nothing.
use Rattle.program_points.specs.Places.{value_at}
use Rattle.point_rows.proofs.Laying.{row_is}
use Rattle.program_points.proofs.Tallying.{parts_of, count_small}
use Rattle.stream_lists.specs.declared.ListBuilt.{ListBuilt}
use mathlib.Core.Bool.{Bool, true, false, cond}
use mathlib.Core.Path.{◌≡◌, sym, subst}
use mir.Val.{bool_byte}
use Prim.Native.Nat.{ℕ, ◌≤◌}
use Rattle.point_rows.proofs.row_at.Goals as goal

-- what `u32::from` makes of a flag is its bit
bit : {n : ℕ} (b : Bool) → n ≡ bool_byte b → n ≡ cond b 1 0
bit true e = e
bit false e = e

pub point_at-point-requires : goal.point_at-point-requires
point_at-point-requires c = (parts_of c.args.program.now (λ i. (c.shared_slice_known-1.given i).fits) c.args.at c.requires).at_within

pub small-requires : goal.small-requires
small-requires c = subst (λ (x : ListBuilt). x.list.count ≤ 64) (sym c.list_at-built.ensures) (count_small c.args.layers (value_at c.args.program.now c.args.at))

pub returns : goal.returns
returns c =
    let a = c.args in
    row_is a.layers a.program.now (λ i. (c.shared_slice_known-1.given i).fits) a.at c.requires c.point_at-point.result c.point_at-point.ensures c.list_at-built.result c.list_at-built.ensures c.closed-closed.result c.closed-closed.ensures
    c.from.ensures c.from-2.ensures c.from-3.ensures (bit _ c.from-4.ensures) (bit _ c.from-5.ensures) c.from-6.ensures c.from-7.ensures c.indicator.ensures c.rate.ensures c.rate-2.ensures c.small.ensures (bit _ c.from-8.ensures)
