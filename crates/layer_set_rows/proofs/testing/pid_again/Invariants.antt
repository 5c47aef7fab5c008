-- `pid_again` meets its contract: no index passed has a layer with the PID.
-- Assumes nothing.
use Prim.Native.Nat.{ℕ, ◌-◌, ◌+◌, ◌*◌, ◌≤◌, ◌<◌}
use mathlib.Core.Bool.{false}
use mathlib.Core.Path.{◌≡◌}
use lib.ListN.{get_or}
use Rattle.layer_set_rows.specs.Buffers.{layer_with}
use Rattle.layer_set_rows.proofs.testing.pid_again.Given as goal

abbrev pub invariant-loop-lower : goal.invariant-loop-lower
invariant-loop-lower l = (l.lower ≤ l.index) × ((k : ℕ) → k < l.lower → layer_with (get_or l.rows (k * 80 + 2) 0) (get_or l.rows (k * 80 + 1) 0) l.pid ≡ false)
