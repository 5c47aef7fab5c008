-- `row_index::search::row_at` meets its contract: a row of the layer that has the time is the answer, however it was come by (Searching).
-- Assumes nothing.
use Prim.Native.Nat.{◌+◌, ◌<◌}
use mathlib.Core.Path.{refl}
use native.Mathlib.Omega.{arith}
use lib.ListN.{length, get_or}
use Rattle.row_index.specs.Index.{Climbing}
use Rattle.row_index.proofs.Searching.{climbing, at_guess}
use Rattle.row_index.proofs.search.row_at.Goals as goal
use Rattle.row_index.proofs.search.row_at.Goals.{Then-guess-starts}

-- the guess lies among the places of the layer's rows, which climb
climbing-at : (c : Then-guess-starts)
    → Climbing c.args.decodings.now c.args.order.now
    (get_or c.args.decodings.now (get_or c.args.order.now (get_or c.args.starts.now c.args.layer 0) 0) 0)
    (get_or c.args.starts.now c.args.layer 0)
    (get_or c.args.starts.now (c.args.layer + 1) 0)
climbing-at c =
    climbing c.args.indices.now c.args.decodings.now c.args.starts.now c.args.order.now
    c.requires.0 c.args.layer c.requires.1 c.requires.2 (omega (arith, c.if-guess-starts.true, c.guess_of-guess.ensures)) _ refl

row_inside : (c : Then-guess-starts) → get_or c.args.order.now c.guess_of-guess.result 0 < length c.args.decodings.now
row_inside c = (climbing-at c).rows _ c.guess_of-guess.ensures c.if-guess-starts.true

pub offset_bounds-order-guess : goal.offset_bounds-order-guess
offset_bounds-order-guess c = omega (arith, (climbing-at c).inside, c.if-guess-starts.true)

pub bounds-order-guess : goal.bounds-order-guess
bounds-order-guess c = omega (arith, (climbing-at (goal.at.bounds-order-guess c).Then-guess-starts).inside, c.if-guess-starts.true)

pub offset_bounds-decodings-row : goal.offset_bounds-decodings-row
offset_bounds-decodings-row c = omega (arith, row_inside (goal.at.offset_bounds-decodings-row c).Then-guess-starts, c.well_formed)

pub bounds-decodings-row : goal.bounds-decodings-row
bounds-decodings-row c = row_inside (goal.at.bounds-decodings-row c).Then-guess-starts

pub overflow_add-next : goal.overflow_add-next
overflow_add-next c = omega (arith, (climbing-at (goal.at.overflow_add-next c).Then-guess-starts).inside, c.if-guess-starts.true)

pub returns-then-decodings-row : goal.returns-then-decodings-row
returns-then-decodings-row c =
    at_guess c.args.indices.now c.args.decodings.now c.args.starts.now c.args.order.now
    c.requires.0 c.args.layer c.requires.1 c.requires.2 (omega (arith, c.if-guess-starts.true, c.guess_of-guess.ensures)) _ refl c.args.time _
    c.guess_of-guess.ensures c.if-guess-starts.true c.if-decodings-row.true
