-- `row_index::search::first_as_far` meets its contract. The invariant: every place below `low` lies less far ahead, and every place from
-- `high` on as far or farther (Searching). The measure is the number of places between. Assumes nothing.
use Prim.Native.Nat.{ℕ, ◌+◌, ◌≤◌, ◌<◌, ◌-◌, ◌/◌}
use mathlib.Core.Path.{subst}
use native.Mathlib.Omega.{arith}
use lib.ListN.{length, get_or}
use Rattle.row_index.proofs.Searching.{less_before, more_after}
use Rattle.row_index.proofs.search.first_as_far.Goals as goal
use Rattle.row_index.proofs.search.first_as_far.Goals.{In-loop-low}

pub loop-low-init : goal.loop-low-init
loop-low-init c = (omega arith, c.requires.nonempty, omega arith, λ q h l. absurd (omega arith), λ q h l. absurd (omega arith))

pub overflow_add-middle : goal.overflow_add-middle
overflow_add-middle c = omega (arith, c.requires.inside)

pub offset_bounds-order-middle : goal.offset_bounds-order-middle
offset_bounds-order-middle c = omega (arith, c.requires.inside)

pub bounds-order-middle : goal.bounds-order-middle
bounds-order-middle c = omega (arith, c.requires.inside)

row_inside : (c : In-loop-low)
    → get_or c.args.order.now (c.loop-low.low + (c.loop-low.high - c.loop-low.low) / 2) 0
    < length c.args.decodings.now
row_inside c =
    let at = c.loop-low in
    c.requires.rows (at.low + (at.high - at.low) / 2) (omega arith) (omega arith)

pub offset_bounds-decodings-order : goal.offset_bounds-decodings-order
offset_bounds-decodings-order c = omega (arith, row_inside (goal.at.offset_bounds-decodings-order c).In-loop-low, c.well_formed)

pub bounds-decodings-order : goal.bounds-decodings-order
bounds-decodings-order c = row_inside (goal.at.bounds-decodings-order c).In-loop-low

pub overflow_add-low : goal.overflow_add-low
overflow_add-low c = omega (arith, c.requires.inside)

pub loop-low-preserved-then-distance-far : goal.loop-low-preserved-then-distance-far
loop-low-preserved-then-distance-far c =
    let at = c.loop-low in
    let middle : ℕ = at.low + (at.high - at.low) / 2 in
    let less = less_before _ _ c.args.origin c.args.far _ _ c.requires middle (omega arith)
    (subst (λ (d : ℕ). d < c.args.far) c.distance.ensures c.if-distance-far.true) in
    (omega arith, omega arith, omega arith, less, at.invariant.4)

pub loop-low-preserved : goal.loop-low-preserved
loop-low-preserved c =
    let at = c.loop-low in
    let middle : ℕ = at.low + (at.high - at.low) / 2 in
    let more = more_after _ _ c.args.origin c.args.far _ _ c.requires middle (omega arith)
    (subst (λ (d : ℕ). c.args.far ≤ d) c.distance.ensures c.if-distance-far.false) in
    (omega arith, omega arith, omega arith, at.invariant.3, more)

pub returns : goal.returns
returns c =
    let at = c.loop-low in
    record {
      from = omega arith;
      to = omega arith;
      before = at.invariant.3;
      after = λ q h l. at.invariant.4 q (omega arith) l;
    }
