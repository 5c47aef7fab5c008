-- `stream_lists::insertion::insert` meets its contract (Opened has the turns). The measure is the place reached. Assumes nothing.
use Prim.Native.Nat.{◌≤◌}
use mathlib.Core.List.{[], ◌∷◌}
use mathlib.Core.Path.{◌≡◌}
use lib.ListN.{get_or}
use Rattle.stream_lists.specs.Insertion.{opened}
use Rattle.stream_lists.proofs.insertion.insert.Given as goal

abbrev pub invariant-loop-at : goal.invariant-loop-at
invariant-loop-at l = (l.place ≤ l.at) × (l.at ≤ l.count) × (l.members ≡ opened l.initial.members l.count l.at (get_or l.initial.members l.at 0 ∷ []))

abbrev pub decreases-loop-at : goal.decreases-loop-at
decreases-loop-at l = l.at
