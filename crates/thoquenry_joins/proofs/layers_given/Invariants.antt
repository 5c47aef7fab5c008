-- `layers_given` meets its contract. The invariant: the array holds the sets passed, and empty ones.
-- Assumes nothing.
use Prim.Native.Nat.{◌-◌, ◌≤◌}
use mathlib.Core.Path.{◌≡◌}
use lib.ListN.{take}
use Rattle.combinators.specs.Padding.{pad_to}
use Rattle.thoquenry_joins.proofs.layers_given.Given as goal

abbrev pub invariant-loop-i : goal.invariant-loop-i
invariant-loop-i l = (l.i ≤ l.end) × (l.named ≡ pad_to 64 0 (take l.i l.embedded))
