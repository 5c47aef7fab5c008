-- `walk` meets its contract.
-- Assumes nothing.
use Rattle.point_descriptors.proofs.Walking.{Walking}
use lib.ListN.{length}
use Prim.Native.Nat.{◌-◌}
use Rattle.point_descriptors.proofs.walk.Given as goal

abbrev pub invariant-loop-at : goal.invariant-loop-at
invariant-loop-at l =
    Walking l.program l.filling l.payloads l.descriptors l.points l.count l.at

abbrev pub decreases-loop-at : goal.decreases-loop-at
decreases-loop-at l =
    length l.program - l.at
