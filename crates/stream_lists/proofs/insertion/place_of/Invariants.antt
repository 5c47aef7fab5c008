-- `stream_lists::insertion::place_of` meets its contract (Placed has the turns). Assumes nothing.
use Prim.Native.Nat.{◌≤◌, ◌+◌}
use mathlib.Core.Path.{◌≡◌}
use lib.ListN.{take, drop}
use Rattle.stream_lists.specs.Insertion.{place_of}
use Rattle.stream_lists.proofs.insertion.place_of.Given as goal

abbrev pub invariant-loop-at : goal.invariant-loop-at
invariant-loop-at l = (l.at ≤ l.count) × (place_of l.index (take l.count l.members) ≡ l.at + place_of l.index (drop l.at (take l.count l.members)))
