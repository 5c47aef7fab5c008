-- `unit_starts::walk` meets its contract. The invariant: what is left, from what was found so far, gives what is found in all, and the packets of the rows so far
-- are noted. The measure is the number of packets left. Assumes nothing.
use Prim.Native.Nat.{◌-◌}
use Rattle.unit_starts.proofs.Walking.{Walking}
use Rattle.unit_starts.proofs.walk.Given as goal

abbrev pub invariant-loop-step : goal.invariant-loop-step
invariant-loop-step l =
    Walking l.table l.kept l.bytes l.first l.packets l.initial.so_far l.initial.ends l.initial.starts l.ends l.starts l.so_far l.step

abbrev pub decreases-loop-step : goal.decreases-loop-step
decreases-loop-step l = l.packets - l.step
