-- `lay_descriptors` meets its contract.
-- Assumes nothing.
use Rattle.point_rows.proofs.Laying.{laying_start, laying_on, laying_end, laying_length, laying_room}
use Rattle.program_points.specs.Places.{counts_at}
use mathlib.Core.Path.{refl}
use native.Mathlib.Omega.{arith}
use Rattle.point_rows.proofs.lay_descriptors.Goals as goal

pub loop-place-init : goal.loop-place-init
loop-place-init c =
    let a = c.args in
    laying_start (counts_at a.program.now) a.places.now a.out.now

pub put_counts-next-requires : goal.put_counts-next-requires
put_counts-next-requires c =
    let a = c.args in
    let at = c.loop-place in
    (c.requires.0 at.place-index c.loop-place-test.true, laying_room (counts_at a.program.now) a.places.now a.out.now at.out at.next at.place-index at.invariant c.loop-place-test.true c.requires.1)

pub loop-place-preserved : goal.loop-place-preserved
loop-place-preserved c =
    let a = c.args in
    let at = c.loop-place in
    laying_on (counts_at a.program.now) a.places.now a.out.now at.out at.next at.place-index at.invariant c.loop-place-test.true refl c.put_counts-next.ensures

pub shape_of-out : goal.shape_of-out
shape_of-out c =
    let a = c.args in
    let at = c.loop-place in
    laying_length (counts_at a.program.now) a.places.now a.out.now at.out at.next at.place-index at.invariant

pub returns : goal.returns
returns c =
    let a = c.args in
    let at = c.loop-place in
    laying_end (counts_at a.program.now) a.places.now a.out.now at.out at.next at.place-index at.invariant (omega (arith, c.loop-place-test.false))
