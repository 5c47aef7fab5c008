-- `packet_states::ends_past_one` meets its contract. The invariant: none of the numbers passed is past 1.
-- Assumes nothing.
use Prim.Native.Nat.{◌≤◌}
use mathlib.Core.Bool.{false}
use mathlib.Core.Path.{◌≡◌}
use lib.ListN.{take}
use Rattle.combinators.specs.Lists.{any}
use Rattle.packet_states.specs.States.{past_one}
use Rattle.packet_states.proofs.ends_past_one.Given as goal

abbrev pub invariant-loop-count : goal.invariant-loop-count
invariant-loop-count l = (l.count-index ≤ 64) × (any past_one (take l.count-index (take 64 l.counts)) ≡ false)
