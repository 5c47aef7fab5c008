-- `packet_states::ends_in` meets its contract. The invariant: the array holds the numbers passed, and 0 after them.
-- Assumes nothing.
use Prim.Native.Nat.{◌≤◌}
use mathlib.Core.Path.{◌≡◌}
use lib.ListN.{take}
use Rattle.combinators.specs.Padding.{pad_to}
use Rattle.packet_states.proofs.ends_in.Given as goal

abbrev pub invariant-loop-i : goal.invariant-loop-i
invariant-loop-i l = (l.i ≤ 64) × (l.ends ≡ pad_to 64 0 (take l.i (take 64 l.counts)))
