-- `closure::rested_on` meets its contract. The invariant: what is left of the scan, from the set as it is, gives what the target rests on.
-- Each turn is a step of the definition (Scan). The measure is the number of indices left. Assumes nothing.
use Prim.Native.Nat.{◌≤◌}
use mathlib.Core.Path.{◌≡◌}
use Rattle.closure.specs.Closures.{followed_below, rested_on}
use Rattle.closure.proofs.rested_on.Given as goal

abbrev pub invariant-loop-left : goal.invariant-loop-left
invariant-loop-left l = (l.left ≤ 64) × (followed_below l.layers l.left l.set ≡ rested_on l.layers l.target)

abbrev pub decreases-loop-left : goal.decreases-loop-left
decreases-loop-left l = l.left
