-- `lay_points` meets its contract.
-- Assumes nothing.
use Rattle.point_rows.proofs.Laying.{laying_start, laying_on, laying_end, laying_length, laying_room}
use Rattle.program_points.specs.Places.{value_at}
use Rattle.program_points.specs.Told.{row_in}
use mathlib.Core.Path.{refl}
use native.Mathlib.Omega.{arith}
use Rattle.point_rows.proofs.lay_points.Goals as goal

pub loop-place-init : goal.loop-place-init
loop-place-init c =
    let a = c.args in
    laying_start (λ at. row_in a.layers (value_at a.program.now at)) a.places.now a.out.now

pub put_row-next-requires : goal.put_row-next-requires
put_row-next-requires c =
    let a = c.args in
    let at = c.loop-place in
    (c.requires.0 at.place-index c.loop-place-test.true, laying_room (λ at. row_in a.layers (value_at a.program.now at)) a.places.now a.out.now at.out at.next at.place-index at.invariant c.loop-place-test.true c.requires.1)

pub loop-place-preserved : goal.loop-place-preserved
loop-place-preserved c =
    let a = c.args in
    let at = c.loop-place in
    laying_on (λ at. row_in a.layers (value_at a.program.now at)) a.places.now a.out.now at.out at.next at.place-index at.invariant c.loop-place-test.true refl c.put_row-next.ensures

pub shape_of-out : goal.shape_of-out
shape_of-out c =
    let a = c.args in
    let at = c.loop-place in
    laying_length (λ at. row_in a.layers (value_at a.program.now at)) a.places.now a.out.now at.out at.next at.place-index at.invariant

pub returns : goal.returns
returns c =
    let a = c.args in
    let at = c.loop-place in
    laying_end (λ at. row_in a.layers (value_at a.program.now at)) a.places.now a.out.now at.out at.next at.place-index at.invariant (omega (arith, c.loop-place-test.false))
