-- `row_index::search::row_sought` meets its contract: a row that has the time can only stand at the place that was reached (Searching).
-- Assumes nothing.
use Prim.Native.Nat.{◌+◌, ◌<◌}
use mathlib.Core.Path.{refl}
use native.Mathlib.Omega.{arith}
use lib.ListN.{length, get_or}
use Rattle.row_index.specs.Index.{Climbing}
use Rattle.row_index.proofs.Searching.{climbing, no_rows, past_all, the_row, another}
use Rattle.row_index.proofs.search.row_sought.Goals as goal
use Rattle.row_index.proofs.search.row_sought.Goals.{Else-end-first, Else-end-place}

-- the layer has rows: their places climb
climbing-at : (c : Else-end-first)
    → Climbing c.args.decodings.now c.args.order.now
    (get_or c.args.decodings.now
    (get_or c.args.order.now
    (get_or c.args.starts.now c.args.layer 0) 0) 0)
    (get_or c.args.starts.now c.args.layer 0)
    (get_or c.args.starts.now (c.args.layer + 1) 0)
climbing-at c =
    climbing c.args.indices.now c.args.decodings.now c.args.starts.now c.args.order.now
    c.requires.0 c.args.layer c.requires.1 c.requires.2 c.if-end-first.false _ refl

first-row-inside : (c : Else-end-first)
    → get_or c.args.order.now
    (get_or c.args.starts.now c.args.layer 0) 0
    < length c.args.decodings.now
first-row-inside c = (climbing-at c).rows _ (omega arith) c.if-end-first.false

-- the place that was reached, and its row
row_inside : (c : Else-end-place)
    → get_or c.args.order.now c.first_as_far-place.result 0
    < length c.args.decodings.now
row_inside c =
    (climbing c.args.indices.now c.args.decodings.now c.args.starts.now c.args.order.now
    c.requires.0 c.args.layer c.requires.1 c.requires.2 c.if-end-first.false _ refl).rows _ c.first_as_far-place.ensures.from c.if-end-place.false

pub returns-then-end-first : goal.returns-then-end-first
returns-then-end-first c =
    no_rows c.args.indices.now c.args.decodings.now c.args.starts.now c.args.order.now
    c.requires.0 c.args.layer c.requires.1 c.if-end-first.true c.args.time

pub offset_bounds-order-first : goal.offset_bounds-order-first
offset_bounds-order-first c = omega (arith, (climbing-at c).inside)

pub bounds-order-first : goal.bounds-order-first
bounds-order-first c = omega (arith, (climbing-at (goal.at.bounds-order-first c).Else-end-first).inside)

pub offset_bounds-decodings-order : goal.offset_bounds-decodings-order
offset_bounds-decodings-order c = omega (arith, first-row-inside (goal.at.offset_bounds-decodings-order c).Else-end-first, c.well_formed)

pub bounds-decodings-order : goal.bounds-decodings-order
bounds-decodings-order c = first-row-inside (goal.at.bounds-decodings-order c).Else-end-first

pub first_as_far-place-requires : goal.first_as_far-place-requires
first_as_far-place-requires c = climbing-at (goal.at.first_as_far-place-requires c).Else-end-first

pub returns-then-end-place : goal.returns-then-end-place
returns-then-end-place c =
    past_all c.args.indices.now c.args.decodings.now c.args.starts.now c.args.order.now
    c.requires.0 c.args.layer c.requires.1 c.requires.2 c.if-end-first.false _ refl c.args.time _ _
    c.distance.ensures c.first_as_far-place.ensures c.if-end-place.true

pub offset_bounds-order-place : goal.offset_bounds-order-place
offset_bounds-order-place c = omega (arith, (climbing-at (goal.at.offset_bounds-order-place c).Else-end-first).inside)

pub bounds-order-place : goal.bounds-order-place
bounds-order-place c = omega (arith, (climbing-at (goal.at.bounds-order-place c).Else-end-first).inside)

pub offset_bounds-decodings-row : goal.offset_bounds-decodings-row
offset_bounds-decodings-row c = omega (arith, row_inside (goal.at.offset_bounds-decodings-row c).Else-end-place, c.well_formed)

pub bounds-decodings-row : goal.bounds-decodings-row
bounds-decodings-row c = row_inside (goal.at.bounds-decodings-row c).Else-end-place

pub overflow_add-next : goal.overflow_add-next
overflow_add-next c = omega (arith, (climbing-at (goal.at.overflow_add-next c).Else-end-first).inside, c.if-end-place.false)

pub returns-then-decodings-row : goal.returns-then-decodings-row
returns-then-decodings-row c =
    the_row c.args.indices.now c.args.decodings.now c.args.starts.now c.args.order.now
    c.requires.0 c.args.layer c.requires.1 c.requires.2 c.if-end-first.false _ refl c.args.time _ _
    c.distance.ensures c.first_as_far-place.ensures c.if-end-place.false c.if-decodings-row.true

pub returns : goal.returns
returns c =
    another c.args.indices.now c.args.decodings.now c.args.starts.now c.args.order.now
    c.requires.0 c.args.layer c.requires.1 c.requires.2 c.if-end-first.false _ refl c.args.time _ _
    c.distance.ensures c.first_as_far-place.ensures c.if-decodings-row.false
