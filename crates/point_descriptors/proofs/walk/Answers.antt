-- `walk` meets its contract.
-- Assumes nothing.
use Rattle.point_descriptors.specs.Descriptors.{worse}
use Rattle.descriptor_heads.proofs.Heads.{framed_not, framed_fits}
use Rattle.combinators.specs.Lists.{part_to_end}
use mathlib.Core.Path.{◌≡◌, ap, ◌∙◌}
use mathlib.Core.List.{List}
use Rattle.point_descriptors.proofs.Walking.{walking_start, walking_end, walking_stop, left_length, array_long, turn_within, turn_room, turn_on}
use lib.ListN.{length, take, drop}
use Prim.Native.Nat.{ℕ, ◌-◌}
use native.Mathlib.Omega.{arith}
use Rattle.point_descriptors.proofs.walk.Goals as goal

pub no_places-payloads-requires : goal.no_places-payloads-requires
no_places-payloads-requires c = tt

pub no_places-points-requires : goal.no_places-points-requires
no_places-points-requires c = tt

pub loop-at-init : goal.loop-at-init
loop-at-init c = walking_start c.args.program.now c.no_places-payloads.ensures c.no_places-points.ensures

pub returns-in-None : goal.returns-in-None
returns-in-None c =
    let a = c.args in
    let loop = c.loop-at in
    let program = a.program.now in
    let left : List ℕ = take (length program - loop.at) (drop loop.at program) in
    let rest : left ≡ drop loop.at program = part_to_end program loop.at in
    let first = c.first_descriptor in
    walking_stop program loop.filling loop.payloads loop.descriptors loop.points loop.count loop.at loop.invariant left rest c.requires (omega (arith, left_length program left loop.at rest, c.loop-at-test.true)) (framed_not left first.result first.ensures c.in-None.is)

pub slice_bounds-body-count : goal.slice_bounds-body-count
slice_bounds-body-count c =
    let a = c.args in
    let loop = c.loop-at in
    let program = a.program.now in
    let left : List ℕ = take (length program - loop.at) (drop loop.at program) in
    let rest : left ≡ drop loop.at program = part_to_end program loop.at in
    let first = c.first_descriptor in
    let framed = framed_fits left first.result first.ensures c.in-Some.first c.in-Some.is in
    omega (arith, framed.2)

pub slice_bounds-body-start : goal.slice_bounds-body-start
slice_bounds-body-start c =
    let a = c.args in
    let loop = c.loop-at in
    let program = a.program.now in
    let left : List ℕ = take (length program - loop.at) (drop loop.at program) in
    let rest : left ≡ drop loop.at program = part_to_end program loop.at in
    let first = c.first_descriptor in
    let framed = framed_fits left first.result first.ensures c.in-Some.first c.in-Some.is in
    omega (arith, framed.2)

pub slice_bounds-body-end : goal.slice_bounds-body-end
slice_bounds-body-end c =
    let a = c.args in
    let loop = c.loop-at in
    let program = a.program.now in
    let left : List ℕ = take (length program - loop.at) (drop loop.at program) in
    let rest : left ≡ drop loop.at program = part_to_end program loop.at in
    let first = c.first_descriptor in
    let framed = framed_fits left first.result first.ensures c.in-Some.first c.in-Some.is in
    omega (arith, framed.2, framed.0)

pub add_payload-descriptors-requires : goal.add_payload-descriptors-requires
add_payload-descriptors-requires c =
    let a = c.args in
    let loop = c.loop-at in
    let program = a.program.now in
    let left : List ℕ = take (length program - loop.at) (drop loop.at program) in
    let rest : left ≡ drop loop.at program = part_to_end program loop.at in
    let first = c.first_descriptor in
    let framed = framed_fits left first.result first.ensures c.in-Some.first c.in-Some.is in
    (loop.invariant.payloads_kept.room, turn_room program loop.filling loop.payloads loop.descriptors loop.points loop.count loop.at loop.invariant left rest c.in-Some.first.tag c.in-Some.first.end framed.1 framed.2 framed.0 c.requires (λ i. (c.shared_slice_known-1.given i).fits), array_long program loop.filling loop.payloads loop.descriptors loop.points loop.count loop.at loop.invariant c.requires loop.invariant.payloads_kept)

pub add_points_if-count-requires : goal.add_points_if-count-requires
add_points_if-count-requires c =
    let a = c.args in
    let loop = c.loop-at in
    let program = a.program.now in
    let left : List ℕ = take (length program - loop.at) (drop loop.at program) in
    let rest : left ≡ drop loop.at program = part_to_end program loop.at in
    let first = c.first_descriptor in
    let framed = framed_fits left first.result first.ensures c.in-Some.first c.in-Some.is in
    (loop.invariant.points_kept.room, turn_room program loop.filling loop.payloads loop.descriptors loop.points loop.count loop.at loop.invariant left rest c.in-Some.first.tag c.in-Some.first.end framed.1 framed.2 framed.0 c.requires (λ i. (c.shared_slice_known-1.given i).fits), array_long program loop.filling loop.payloads loop.descriptors loop.points loop.count loop.at loop.invariant c.requires loop.invariant.points_kept)

pub overflow_add-at : goal.overflow_add-at
overflow_add-at c =
    let a = c.args in
    let loop = c.loop-at in
    let program = a.program.now in
    let left : List ℕ = take (length program - loop.at) (drop loop.at program) in
    let rest : left ≡ drop loop.at program = part_to_end program loop.at in
    let first = c.first_descriptor in
    let framed = framed_fits left first.result first.ensures c.in-Some.first c.in-Some.is in
    omega (arith, turn_within program loop.filling loop.payloads loop.descriptors loop.points loop.count loop.at loop.invariant left rest c.in-Some.first.tag c.in-Some.first.end framed.1 framed.2 framed.0 c.requires (λ i. (c.shared_slice_known-1.given i).fits), c.requires)

pub loop-at-smaller : goal.loop-at-smaller
loop-at-smaller c =
    let a = c.args in
    let loop = c.loop-at in
    let program = a.program.now in
    let left : List ℕ = take (length program - loop.at) (drop loop.at program) in
    let rest : left ≡ drop loop.at program = part_to_end program loop.at in
    let first = c.first_descriptor in
    let framed = framed_fits left first.result first.ensures c.in-Some.first c.in-Some.is in
    omega (arith, turn_within program loop.filling loop.payloads loop.descriptors loop.points loop.count loop.at loop.invariant left rest c.in-Some.first.tag c.in-Some.first.end framed.1 framed.2 framed.0 c.requires (λ i. (c.shared_slice_known-1.given i).fits), framed.2)

pub loop-at-preserved : goal.loop-at-preserved
loop-at-preserved c =
    let a = c.args in
    let loop = c.loop-at in
    let program = a.program.now in
    let left : List ℕ = take (length program - loop.at) (drop loop.at program) in
    let rest : left ≡ drop loop.at program = part_to_end program loop.at in
    let first = c.first_descriptor in
    let framed = framed_fits left first.result first.ensures c.in-Some.first c.in-Some.is in
    turn_on program loop.filling loop.payloads loop.descriptors loop.points loop.count loop.at loop.invariant left rest c.in-Some.first.tag c.in-Some.first.end framed.1 framed.2 framed.0 c.requires (λ i. (c.shared_slice_known-1.given i).fits)
    (c.worse-filling.ensures ∙ ap (worse loop.filling) c.filling_if.ensures) c.add_payload-descriptors.ensures c.add_points_if-count.ensures

pub returns : goal.returns
returns c =
    let loop = c.loop-at in
    walking_end c.args.program.now loop.filling loop.payloads loop.descriptors loop.points loop.count loop.at loop.invariant c.requires (omega (arith, c.loop-at-test.false))
