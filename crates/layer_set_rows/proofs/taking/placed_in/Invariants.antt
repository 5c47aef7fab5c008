-- `placed_in` meets its contract: the entries of the rows passed are placed.
-- Assumes nothing.
use Prim.Native.Nat.{◌-◌, ◌≤◌}
use mathlib.Core.Path.{◌≡◌}
use Rattle.entry_rows.specs.Rows.{entries_below}
use Rattle.layer_set.specs.Sets.{placed_of}
use Rattle.layer_set_rows.proofs.taking.placed_in.Given as goal

abbrev pub invariant-loop-i : goal.invariant-loop-i
invariant-loop-i l = (l.i ≤ 64) × (l.placed ≡ placed_of (entries_below l.rows l.i))
