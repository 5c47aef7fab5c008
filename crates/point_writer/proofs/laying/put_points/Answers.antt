-- `laying::put_points` meets its contract. The invariant: the points passed are laid in, and what is left of the lists gives the others.
-- Assumes nothing.
use Prim.Native.Nat.{◌+◌, ◌-◌, ◌*◌}
use lib.ListN.{get_or}
use Rattle.buffers.proofs.Laws.{laid_length}
use Rattle.point_fields.specs.Fields.{reference_too_wide}
use Rattle.point_writer.proofs.Walking.{walking_start, walking_next, walking_end, turn, any_part}
use native.Mathlib.Omega.{arith}
use Rattle.point_writer.proofs.laying.put_points.Goals as goal

pub loop-i-init : goal.loop-i-init
loop-i-init c = walking_start c.args.points.now c.args.references.now c.args.layers.now c.put-place.ensures c.requires.points_value.0 c.requires.points_value_2.0 c.requires.points_value_2.1

pub overflow_cast-references_end : goal.overflow_cast-references_end
overflow_cast-references_end c = omega (arith, (c.shared_slice_known-in-loop-i-1.given (c.loop-i.i * 12 + 1)).fits)

pub overflow_add-references_end-in-loop-i : goal.overflow_add-references_end-in-loop-i
overflow_add-references_end-in-loop-i c = let t = turn c.args.points.now c.args.references.now c.args.layers.now _ _ c.loop-i.out c.loop-i.place c.loop-i.reference c.loop-i.layer c.loop-i.i c.loop-i.invariant c.loop-i-test.true in omega (arith, t.references_within)

pub overflow_cast-layers_end : goal.overflow_cast-layers_end
overflow_cast-layers_end c = omega (arith, (c.shared_slice_known-in-loop-i-2-1.given (c.loop-i.i * 12 + 2)).fits)

pub overflow_add-layers_end-in-loop-i : goal.overflow_add-layers_end-in-loop-i
overflow_add-layers_end-in-loop-i c = let t = turn c.args.points.now c.args.references.now c.args.layers.now _ _ c.loop-i.out c.loop-i.place c.loop-i.reference c.loop-i.layer c.loop-i.i c.loop-i.invariant c.loop-i-test.true in omega (arith, t.layers_within)

pub slice_bounds-put_point-end-in-loop-i : goal.slice_bounds-put_point-end-in-loop-i
slice_bounds-put_point-end-in-loop-i c = let t = turn c.args.points.now c.args.references.now c.args.layers.now _ _ c.loop-i.out c.loop-i.place c.loop-i.reference c.loop-i.layer c.loop-i.i c.loop-i.invariant c.loop-i-test.true in omega (arith, t.references_within)

pub slice_bounds-put_point-end-in-loop-i-2 : goal.slice_bounds-put_point-end-in-loop-i-2
slice_bounds-put_point-end-in-loop-i-2 c = let t = turn c.args.points.now c.args.references.now c.args.layers.now _ _ c.loop-i.out c.loop-i.place c.loop-i.reference c.loop-i.layer c.loop-i.i c.loop-i.invariant c.loop-i-test.true in omega (arith, t.layers_within)

pub put_point-place-requires : goal.put_point-place-requires
put_point-place-requires c = let t = turn c.args.points.now c.args.references.now c.args.layers.now _ _ c.loop-i.out c.loop-i.place c.loop-i.reference c.loop-i.layer c.loop-i.i c.loop-i.invariant c.loop-i-test.true in (t.row_long, t.row_fine, any_part reference_too_wide c.args.references.now c.requires.points_value.1 (c.loop-i.reference + get_or c.args.points.now (c.loop-i.i * 12 + 1) 0 - c.loop-i.reference) c.loop-i.reference)

pub loop-i-preserved : goal.loop-i-preserved
loop-i-preserved c = walking_next c.args.points.now c.args.references.now c.args.layers.now _ _ c.loop-i.out c.loop-i.place c.loop-i.reference c.loop-i.layer c.loop-i.i c.loop-i.invariant c.loop-i-test.true c.put_point-place.ensures

pub returns : goal.returns
returns c = walking_end c.args.points.now c.args.references.now c.args.layers.now c.put-place.ensures c.loop-i.invariant c.loop-i-test.false

pub shape_of-out : goal.shape_of-out
shape_of-out c = laid_length (returns c)
