-- `operation_points::points_filling` meets its contract (Judging has the turns). Assumes nothing.
use Prim.Native.Nat.{ℕ, ◌+◌, ◌-◌, ◌<◌}
use mathlib.Core.Path.{◌≡◌, sym, ap, ◌∙◌, subst}
use native.Mathlib.Omega.{arith}
use Rattle.std.specs.Prelude.{Err}
use Rattle.std.proofs.lemmas.Result.{err_from_is_err_and}
use Rattle.combinators.specs.Lists.{part_to_end}
use Rattle.operation_points.specs.declared.PointFault.{PointFault}
use Rattle.operation_points.specs.Points.{first_point}
use Rattle.operation_points.proofs.Judging.{Passing, passing_start, passing_end, passing_more, passing_fault, passing_fits, passing_on}
use Rattle.operation_points.proofs.points_filling.Goals as goal

pub loop-init : goal.loop-init
loop-init c =
    let a = c.args in
    let all : a.count ≡ a.count - 0 = omega arith in
    subst (λ (n : ℕ). Passing a.payload.now a.count a.first n a.first) all (passing_start a.payload.now a.count a.first c.requires)

pub slice_bounds-first_point-count : goal.slice_bounds-first_point-count
slice_bounds-first_point-count c = c.loop.invariant.within

pub returns-in_err-point : goal.returns-in_err-point
returns-in_err-point c =
    let a = c.args in
    let some : 0 < a.count - c.loop.counter = omega arith in
    let p = err_from_is_err_and c.from_residual.result c.from_residual.ensures.1 in
    p.1
    ∙ ap (λ (fault : PointFault). Err fault) p.2
    ∙ passing_fault a.payload.now a.count a.first (a.count - c.loop.counter) c.loop.at c.loop.invariant some _
    (sym c.in_err-point.was ∙ c.first_point.ensures ∙ ap first_point (part_to_end a.payload.now c.loop.at))

pub overflow_add-at : goal.overflow_add-at
overflow_add-at c =
    let a = c.args in
    let some : 0 < a.count - c.loop.counter = omega arith in
    omega (
      arith,
      passing_fits a.payload.now a.count a.first (a.count - c.loop.counter) c.loop.at c.loop.invariant some c.in_ok-point.point
          (sym c.in_ok-point.was ∙ c.first_point.ensures ∙ ap first_point (part_to_end a.payload.now c.loop.at)),
      c.well_formed,
    )

pub loop-preserved : goal.loop-preserved
loop-preserved c =
    let a = c.args in
    let some : 0 < a.count - c.loop.counter = omega arith in
    let left : a.count - c.loop.counter - 1 ≡ a.count - (c.loop.counter + 1) = omega arith in
    subst (λ (n : ℕ). Passing a.payload.now a.count a.first n (c.loop.at + c.in_ok-point.point.size)) left
    (passing_on a.payload.now a.count a.first (a.count - c.loop.counter) c.loop.at c.loop.invariant some c.in_ok-point.point
    (sym c.in_ok-point.was ∙ c.first_point.ensures ∙ ap first_point (part_to_end a.payload.now c.loop.at)))

pub returns-then-at-payload : goal.returns-then-at-payload
returns-then-at-payload c =
    let a = c.args in
    passing_more a.payload.now a.count a.first (a.count - c.loop.counter) c.loop.at c.loop.invariant (omega arith) c.if-at-payload.true

pub returns : goal.returns
returns c =
    let a = c.args in
    passing_end a.payload.now a.count a.first (a.count - c.loop.counter) c.loop.at c.loop.invariant (omega arith) c.if-at-payload.false
