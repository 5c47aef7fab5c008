-- `packet_states::put_ends` meets its contract. The invariant: the first i numbers are stored. Assumes nothing.
use Prim.Native.Nat.{◌-◌, ◌≤◌}
use mathlib.Core.Path.{◌≡◌}
use lib.ListN.{length, take}
use lib.Seq.{sets}
use Rattle.packet_states.proofs.put_ends.Given as goal

abbrev pub invariant-loop-i : goal.invariant-loop-i
invariant-loop-i l = (l.i ≤ 64) × (length l.counts ≡ length l.initial.counts) × (l.counts ≡ sets l.initial.counts 0 (take l.i l.ends))
