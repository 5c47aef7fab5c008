-- `heads::first_unpaired` meets its contract. The invariant: none of the rows so far is a head without an assembly. The measure is
-- the number of rows left. Assumes nothing.
use Prim.Native.Nat.{ℕ, ◌<◌}
use mathlib.Core.Bool.{false}
use mathlib.Core.List.{[]}
use mathlib.Core.Path.{◌≡◌}
use Rattle.rows.specs.Table.{table}
use Rattle.heads.specs.Units.{frame, unpaired}
use Rattle.heads.proofs.first_unpaired.Given as goal

abbrev pub invariant-loop-row : goal.invariant-loop-row
invariant-loop-row l =
    (k : ℕ) → k < l.row → unpaired (table l.indices l.decodings l.matches) (frame l.closure l.claimed [] l.edges) k ≡ false
