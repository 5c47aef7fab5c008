-- `console::looks_like_packets` meets its contract. The loop's invariant: every packet passed starts with the sync byte.
-- Assumes nothing.
use Prim.Native.Nat.{◌≤◌, ◌-◌}
use mathlib.Core.Bool.{true}
use mathlib.Core.Path.{◌≡◌}
use Rattle.combinators.specs.Below.{every}
use Rattle.console.specs.Inputs.{starts_packet}
use Rattle.console.proofs.looks_like_packets.Given as goal

abbrev pub invariant-loop-k : goal.invariant-loop-k
invariant-loop-k l = (l.k ≤ l.packets) × (every (starts_packet l.bytes) l.k ≡ true)
