-- `scanning::skipping::skip` meets its contract. The invariant: all packets so far are passed over. The measure is the number of packets left.
-- Assumes nothing.
use Prim.Native.Nat.{◌-◌}
use Rattle.scanning.specs.Events.{Passes}
use Rattle.scanning.proofs.skipping.skip.Given as goal

abbrev pub invariant-loop-number : goal.invariant-loop-number
invariant-loop-number l = Passes l.table l.kept l.bytes l.initial.ends l.from l.packets l.number l.ends

abbrev pub decreases-loop-number : goal.decreases-loop-number
decreases-loop-number l = l.packets - l.number
