-- `pid_layers::layers_by_pid` meets its contract. The invariant: the layers so far stand at their PIDs. The measure is the number of indices left. Assumes nothing.
use Prim.Native.Nat.{◌-◌, ◌≤◌}
use mathlib.Core.Path.{◌≡◌}
use lib.ListN.{replicate}
use Rattle.pid_layers.specs.PidLayers.{pids, tabled}
use Rattle.pid_layers.proofs.layers_by_pid.Given as goal

abbrev pub invariant-loop-index : goal.invariant-loop-index
invariant-loop-index l = (l.index ≤ 64) × (l.table ≡ tabled (replicate pids 255) l.present l.pids l.index)
