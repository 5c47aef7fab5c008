-- `rows::first_out_of_range` meets its contract. The invariant: no row before this one is out of range. Assumes nothing.
use Prim.Native.Nat.{ℕ, ◌≤◌, ◌<◌}
use mathlib.Core.Bool.{false}
use mathlib.Core.Path.{◌≡◌}
use lib.ListN.{length}
use Rattle.rows.specs.Table.{table, out_of_range}
use Rattle.rows.proofs.first_out_of_range.Given as goal

abbrev pub invariant-loop-row : goal.invariant-loop-row
invariant-loop-row l =
    (l.row ≤ length l.indices)
    × ((k : ℕ) → k < l.row → out_of_range (table l.indices l.decodings l.matches) k ≡ false)
