-- `row_index::search::first_as_far` meets its contract. The invariant: every place below `low` lies less far ahead, and every place from
-- `high` on as far or farther (Searching). The measure is the number of places between. Assumes nothing.
use Prim.Native.Nat.{ℕ, ◌≤◌, ◌<◌, ◌-◌}
use lib.ListN.{get_or}
use Rattle.clock.specs.Clock.{distance_of}
use Rattle.row_index.proofs.search.first_as_far.Given as goal

abbrev pub invariant-loop-low : goal.invariant-loop-low
invariant-loop-low l =
    (l.first ≤ l.low)
    × (l.low ≤ l.high)
    × (l.high ≤ l.end)
    × ((q : ℕ) → l.first ≤ q → q < l.low → distance_of l.origin (get_or l.decodings (get_or l.order q 0) 0) < l.far)
    × ((q : ℕ) → l.high ≤ q → q < l.end → l.far ≤ distance_of l.origin (get_or l.decodings (get_or l.order q 0) 0))

abbrev pub decreases-loop-low : goal.decreases-loop-low
decreases-loop-low l =
    l.high - l.low
