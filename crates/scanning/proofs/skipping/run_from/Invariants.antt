-- `scanning::skipping::run_from` meets its contract. The invariant: the packets so far are a run, and the fourth byte of its last one is known. The measure is the number
-- of packets left. Assumes nothing.
use Prim.Native.Nat.{◌-◌}
use Rattle.scanning.proofs.Looking.{Running}
use Rattle.scanning.proofs.skipping.run_from.Given as goal

abbrev pub invariant-loop-last : goal.invariant-loop-last
invariant-loop-last l = Running l.bytes l.second l.third l.from l.packets l.last l.fourth

abbrev pub decreases-loop-last : goal.decreases-loop-last
decreases-loop-last l = l.packets - l.last
