-- `continuity::same` meets its contract. The invariant: as many differences as there are at the places passed. The measure is the number of
-- places left. Assumes nothing.
use Prim.Native.Nat.{◌-◌, ◌≤◌}
use mathlib.Core.Path.{◌≡◌}
use lib.ListN.{length}
use Rattle.combinators.specs.Below.{count}
use Rattle.continuity.specs.Following.{differs}
use Rattle.continuity.proofs.same.Given as goal

abbrev pub invariant-loop-at : goal.invariant-loop-at
invariant-loop-at l = (l.at ≤ length l.one) × (l.differences ≡ count (differs l.one l.other) l.at)
