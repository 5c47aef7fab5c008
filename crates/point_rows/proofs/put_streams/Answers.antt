-- `put_streams` meets its contract.
-- Assumes nothing.
use Rattle.point_rows.proofs.Laying.{members_held}
use Rattle.program_points.proofs.Tallying.{streams_many}
use Rattle.program_points.specs.Places.{value_at}
use Prim.Native.Nat.{◌≤◌}
use Rattle.buffers.proofs.Laws.{laid_as}
use Rattle.stream_lists.specs.declared.ListBuilt.{ListBuilt}
use lib.ListN.{length, take}
use mathlib.Core.Path.{◌≡◌, sym, ap, subst}
use Rattle.point_rows.proofs.put_streams.Goals as goal

pub slice_bounds-members-end : goal.slice_bounds-members-end
slice_bounds-members-end c = subst (λ (x : ListBuilt). x.list.count ≤ length x.list.members) (sym c.list_at-built.ensures) (members_held c.args.layers (value_at c.args.program.now c.args.place))

pub slice_bounds-put-end : goal.slice_bounds-put-end
slice_bounds-put-end c = subst (λ (x : ListBuilt). x.list.count ≡ length (take x.list.count x.list.members)) (sym c.list_at-built.ensures) (sym (streams_many c.args.layers (value_at c.args.program.now c.args.place)))

pub returns : goal.returns
returns c = laid_as (ap (λ (x : ListBuilt). take x.list.count x.list.members) c.list_at-built.ensures) c.put.ensures
