-- `weigh_points` meets its contract. The invariant: what the rows passed come to, continued over those that are left, is the answer.
-- Assumes nothing.
use Prim.Native.Nat.{◌+◌, ◌-◌, ◌*◌, ◌/◌}
use mathlib.Core.Path.{sym, ◌∙◌, ap}
use lib.ListN.{length, drop, length-take, length-drop}
use Rattle.point_weights.specs.Rows.{twelves}
use Rattle.point_weights.specs.Weighing.{nothing_weighed, weighed_after}
use Rattle.point_weights.proofs.Weights.{rows_start, rows_next, rows_none, wide_here, fine_here}
use native.Mathlib.Omega.{arith}
use Rattle.point_weights.proofs.weigh_points.Goals as goal

pub loop-i-init : goal.loop-i-init
loop-i-init c = let points = c.args.points.now in (omega arith, ap (weighed_after nothing_weighed) (rows_start points (length points / 12)), omega arith, omega arith, omega arith)

pub weigh_next-weighed-requires : goal.weigh_next-weighed-requires
weigh_next-weighed-requires c = (simp (length-take, length-drop) (omega arith), sym c.row_too_wide.ensures ∙ c.if-row_too_wide.false, omega arith, omega arith, omega arith)

pub row_too_wide-requires : goal.row_too_wide-requires
row_too_wide-requires c = simp (length-take, length-drop) (omega arith)

pub returns-then-row_too_wide : goal.returns-then-row_too_wide
returns-then-row_too_wide c =
    let points = c.args.points.now in
    let loop = c.loop-i in (
      wide_here loop.weighed _ (twelves (length points / 12 - (loop.i + 1)) (drop ((loop.i + 1) * 12) points)) (sym c.row_too_wide.ensures ∙ c.if-row_too_wide.true)
          ∙ sym (ap (weighed_after loop.weighed) (rows_next points (length points / 12) loop.i (omega arith)))
          ∙ loop.invariant.1,
      tt,
    )

pub loop-i-preserved : goal.loop-i-preserved
loop-i-preserved c =
    let points = c.args.points.now in
    let loop = c.loop-i in
    let next = c.weigh_next-weighed in (
      omega arith,
      ap (λ w. weighed_after w (twelves (length points / 12 - (loop.i + 1)) (drop ((loop.i + 1) * 12) points))) next.ensures.0
          ∙ fine_here loop.weighed _ (twelves (length points / 12 - (loop.i + 1)) (drop ((loop.i + 1) * 12) points)) (sym c.row_too_wide.ensures ∙ c.if-row_too_wide.false)
          ∙ sym (ap (weighed_after loop.weighed) (rows_next points (length points / 12) loop.i (omega arith)))
          ∙ loop.invariant.1,
      omega (arith, next.ensures.1),
      omega (arith, next.ensures.2),
      omega (arith, next.ensures.3),
    )

pub returns : goal.returns
returns c =
    let points = c.args.points.now in
    let loop = c.loop-i in
    (sym (ap (weighed_after loop.weighed) (rows_none points (length points / 12) loop.i (omega arith))) ∙ loop.invariant.1, (omega arith, omega arith, omega arith))
