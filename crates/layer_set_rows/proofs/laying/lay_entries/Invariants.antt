-- `lay_entries` meets its contract: the rows of the entries passed stand at the front.
-- Assumes nothing.
use Prim.Native.Nat.{◌-◌, ◌*◌, ◌≤◌}
use mathlib.Core.Path.{◌≡◌}
use lib.ListN.{length, take}
use Rattle.entry_rows.specs.Rows.{rows_of}
use Rattle.layer_set_rows.proofs.laying.lay_entries.Given as goal

abbrev pub invariant-loop-i : goal.invariant-loop-i
invariant-loop-i l = (l.i ≤ 64) × (length l.rows ≡ 5120) × (take (l.i * 80) l.rows ≡ rows_of (take l.i l.entries))
