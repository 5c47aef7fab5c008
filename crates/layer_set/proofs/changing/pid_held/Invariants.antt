-- `pid_held` meets its contract: no index passed has a layer with the PID.
-- Assumes nothing.
use Prim.Native.Nat.{ℕ, ◌-◌, ◌≤◌, ◌<◌}
use mathlib.Core.Bool.{false}
use mathlib.Core.Path.{◌≡◌}
use Rattle.layer_set.specs.Sets.{entry_at, held_at}
use Rattle.layer_set.proofs.changing.pid_held.Given as goal

abbrev pub invariant-loop-index : goal.invariant-loop-index
invariant-loop-index l = (l.index ≤ 64) × ((k : ℕ) → k < l.index → held_at l.present (entry_at l.entry-items k) k l.pid ≡ false)
