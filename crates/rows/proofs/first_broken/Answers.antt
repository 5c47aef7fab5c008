-- `rows::first_broken` meets its contract. The invariant, what is known of the order after some rows, and each turn are in Order.
-- Assumes nothing.
use Prim.Native.Nat.{◌<◌}
use mathlib.Core.Path.{◌≡◌, sym, ◌∙◌}
use native.Mathlib.Omega.{arith}
use lib.ListN.{length}
use Rattle.sets.proofs.Laws.{has_within}
use Rattle.rows.proofs.Order.{ordered_start, ordered_other, broken_no_farther, broken_too_far, ordered_more, ordered_end}
use Rattle.rows.proofs.first_broken.Goals as goal
use Rattle.rows.proofs.first_broken.Goals.{then-member+else-far-least+else-far-ge-HALF, else-member, Then-member}

-- a member of the closure is below 64
layer_below : (c : Then-member) → c.from-layer.result < 64
layer_below c =
    has_within 64 c.ranges.closure.fits
    (sym c.member.ensures ∙ c.if-member.true)

pub loop-row-init : goal.loop-row-init
loop-row-init c = ordered_start _ _ c.ranges.closure.fits

pub offset_bounds-least-layer : goal.offset_bounds-least-layer
offset_bounds-least-layer c = omega (arith, layer_below (goal.at.offset_bounds-least-layer c).Then-member)

pub bounds-least-layer : goal.bounds-least-layer
bounds-least-layer c = omega (arith, layer_below (goal.at.bounds-least-layer c).Then-member)

pub offset_bounds-firsts-layer : goal.offset_bounds-firsts-layer
offset_bounds-firsts-layer c = omega (arith, layer_below (goal.at.offset_bounds-firsts-layer c).Then-member)

pub bounds-firsts-layer : goal.bounds-firsts-layer
bounds-firsts-layer c = omega (arith, layer_below (goal.at.bounds-firsts-layer c).Then-member)

pub offset_bounds-least-layer-then-member : goal.offset_bounds-least-layer-then-member
offset_bounds-least-layer-then-member c = omega (arith, layer_below (goal.at.offset_bounds-least-layer-then-member c).Then-member)

pub bounds-least-layer-then-member : goal.bounds-least-layer-then-member
bounds-least-layer-then-member c = omega (arith, layer_below (goal.at.bounds-least-layer-then-member c).Then-member)

pub returns-then-far-least : goal.returns-then-far-least
returns-then-far-least c =
    let at = c.loop-row in
    broken_no_farther _ _ at.row _ _ at.invariant c.loop-row-test.true
    (rw c.from-layer.ensures at (sym c.member.ensures ∙ c.if-member.true)) _ _
    (rw c.from-layer.ensures at c.first_time-first.ensures) c.distance-far.ensures (rw c.from-layer.ensures at c.if-far-least.true)

pub returns-then-far-ge-HALF : goal.returns-then-far-ge-HALF
returns-then-far-ge-HALF c =
    let at = c.loop-row in
    broken_too_far _ _ at.row _ _ at.invariant c.loop-row-test.true
    (rw c.from-layer.ensures at (sym c.member.ensures ∙ c.if-member.true)) _ _
    (rw c.from-layer.ensures at c.first_time-first.ensures) c.distance-far.ensures c.if-far-ge-HALF.true

pub offset_bounds-firsts-layer-then-member : goal.offset_bounds-firsts-layer-then-member
offset_bounds-firsts-layer-then-member c = omega (arith, layer_below (goal.at.offset_bounds-firsts-layer-then-member c).Then-member)

pub bounds-firsts-layer-then-member : goal.bounds-firsts-layer-then-member
bounds-firsts-layer-then-member c = omega (arith, layer_below (goal.at.bounds-firsts-layer-then-member c).Then-member)

pub offset_bounds-least-layer-then-member-2 : goal.offset_bounds-least-layer-then-member-2
offset_bounds-least-layer-then-member-2 c = omega (arith, layer_below (goal.at.offset_bounds-least-layer-then-member-2 c).Then-member)

pub bounds-least-layer-then-member-2 : goal.bounds-least-layer-then-member-2
bounds-least-layer-then-member-2 c = omega (arith, layer_below (goal.at.bounds-least-layer-then-member-2 c).Then-member)

pub loop-row-preserved : goal.loop-row-preserved
loop-row-preserved c =
    let at = c.loop-row in
    let more = c.loop-row-test.true in
    let small = c.ranges.closure.fits in
    elim c.if-member.branch [
      | then-member+else-far-least+else-far-ge-HALF w ↦
          rw (w.firsts-is, w.least-is, c.from-layer.ensures) (ordered_more _ _ at.row _ _ at.invariant more
          (rw c.from-layer.ensures at (sym c.member.ensures ∙ w.if-member.true)) _ _
          (rw c.from-layer.ensures at w.first_time-first.ensures) w.distance-far.ensures small
          (rw c.from-layer.ensures at w.if-far-least.false) w.if-far-ge-HALF.false)
      | else-member w ↦
          rw (w.firsts-is, w.least-is) (ordered_other _ _ at.row _ _ at.invariant more
          (rw c.from-layer.ensures at (sym c.member.ensures ∙ w.if-member.false)))
    ]

pub returns : goal.returns
returns c =
    let all : c.loop-row.row ≡ length c.args.indices.now = omega arith in
    sym all ∙ ordered_end _ _ _ _ _ c.loop-row.invariant c.loop-row-test.false
