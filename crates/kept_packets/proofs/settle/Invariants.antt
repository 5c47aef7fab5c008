-- `kept_packets::settle` meets its contract. The invariant: the last packets of the layers so far stand at their places. The measure is the number of layers left.
-- Assumes nothing.
use Prim.Native.Nat.{◌-◌}
use Rattle.kept_packets.proofs.Settling.{Settling}
use Rattle.kept_packets.proofs.settle.Given as goal

abbrev pub invariant-loop-slot : goal.invariant-loop-slot
invariant-loop-slot l = Settling l.initial.kept l.bytes l.initial.ends l.kept l.ends l.slot
