-- `add_points` meets its contract.
-- Assumes nothing.
use Prim.Native.Nat.{ℕ, ◌+◌, ◌-◌, ◌<◌}
use lib.ListN.{set}
use Rattle.operation_points.specs.Points.{first_point}
use Rattle.combinators.specs.Lists.{part_to_end}
use mathlib.Core.Path.{◌≡◌, sym, ◌∙◌, ap, subst}
use Rattle.point_descriptors.proofs.Adding.{Adding, adding_start, adding_end, adding_fault, adding_within, adding_room, adding_on}
use native.Mathlib.Omega.{arith}
use Rattle.point_descriptors.proofs.add_points.Goals as goal

pub loop-init : goal.loop-init
loop-init c =
    let a = c.args in
    let all : a.points ≡ a.points - 0 = omega arith in
    subst (λ (n : ℕ). Adding a.places.now a.count a.base a.payload.now a.first a.points a.places.now a.first a.count n) all
    (adding_start a.places.now a.count a.base a.payload.now a.first a.points c.requires.1 c.requires.0)

pub slice_bounds-first_point-count : goal.slice_bounds-first_point-count
slice_bounds-first_point-count c = c.loop.invariant.within

pub returns-in-Err : goal.returns-in-Err
returns-in-Err c =
    let a = c.args in
    let at = c.loop in
    let some : 0 < a.points - at.counter = omega arith in
    adding_fault a.places.now a.count a.base a.payload.now a.first a.points at.places at.at at.filled (a.points - at.counter) at.invariant some _
    (sym c.in-Err.is ∙ c.first_point.ensures ∙ ap first_point (part_to_end a.payload.now at.at))

pub overflow_add-places : goal.overflow_add-places
overflow_add-places c = omega (arith, c.requires.2, c.loop.invariant.within)

pub offset_bounds-places-filled : goal.offset_bounds-places-filled
offset_bounds-places-filled c =
    let a = c.args in
    let at = c.loop in
    let some : 0 < a.points - at.counter = omega arith in
    omega (arith, adding_room a.places.now a.count a.base a.payload.now a.first a.points at.places at.at at.filled (a.points - at.counter) at.invariant some (λ i. (c.shared_slice_known-1.given i).fits) c.in-Ok.point (sym c.in-Ok.is ∙ c.first_point.ensures ∙ ap first_point (part_to_end a.payload.now at.at)) c.requires.2)

pub bounds-places-filled : goal.bounds-places-filled
bounds-places-filled c =
    let a = c.args in
    let at = c.loop in
    let some : 0 < a.points - at.counter = omega arith in
    adding_room a.places.now a.count a.base a.payload.now a.first a.points at.places at.at at.filled (a.points - at.counter) at.invariant some (λ i. (c.shared_slice_known-1.given i).fits) c.in-Ok.point (sym c.in-Ok.is ∙ c.first_point.ensures ∙ ap first_point (part_to_end a.payload.now at.at)) c.requires.2

pub overflow_add-filled : goal.overflow_add-filled
overflow_add-filled c =
    let a = c.args in
    let at = c.loop in
    let some : 0 < a.points - at.counter = omega arith in
    omega (arith, adding_room a.places.now a.count a.base a.payload.now a.first a.points at.places at.at at.filled (a.points - at.counter) at.invariant some (λ i. (c.shared_slice_known-1.given i).fits) c.in-Ok.point (sym c.in-Ok.is ∙ c.first_point.ensures ∙ ap first_point (part_to_end a.payload.now at.at)) c.requires.2)

pub overflow_add-at : goal.overflow_add-at
overflow_add-at c =
    let a = c.args in
    let at = c.loop in
    let some : 0 < a.points - at.counter = omega arith in
    omega (arith, adding_within a.places.now a.count a.base a.payload.now a.first a.points at.places at.at at.filled (a.points - at.counter) at.invariant some (λ i. (c.shared_slice_known-1.given i).fits) c.in-Ok.point (sym c.in-Ok.is ∙ c.first_point.ensures ∙ ap first_point (part_to_end a.payload.now at.at)), c.requires.2)

pub loop-preserved : goal.loop-preserved
loop-preserved c =
    let a = c.args in
    let at = c.loop in
    let some : 0 < a.points - at.counter = omega arith in
    let left : a.points - at.counter - 1 ≡ a.points - (at.counter + 1) = omega arith in
    subst (λ (n : ℕ). Adding a.places.now a.count a.base a.payload.now a.first a.points (set at.places at.filled (a.base + at.at)) (at.at + c.in-Ok.point.size) (at.filled + 1) n) left
    (adding_on a.places.now a.count a.base a.payload.now a.first a.points at.places at.at at.filled (a.points - at.counter) at.invariant some (λ i. (c.shared_slice_known-1.given i).fits) c.in-Ok.point (sym c.in-Ok.is ∙ c.first_point.ensures ∙ ap first_point (part_to_end a.payload.now at.at)))

pub returns : goal.returns
returns c =
    let a = c.args in
    let at = c.loop in
    adding_end a.places.now a.count a.base a.payload.now a.first a.points at.places at.at at.filled (a.points - at.counter) at.invariant (omega arith)
