-- `heads::judge` meets its contract. The invariant, what is known after some rows, and each turn are in Claiming. The measure is the
-- number of rows left. Assumes nothing.
use mathlib.Core.Path.{◌≡◌}
use lib.ListN.{length}
use Rattle.rows.specs.Table.{table}
use Rattle.assembling.specs.Assemblies.{no_rows}
use Rattle.heads.specs.Units.{frame}
use Rattle.heads.proofs.Claiming.{Walked}
use Rattle.heads.proofs.judge.Given as goal

abbrev pub invariant-loop-row : goal.invariant-loop-row
invariant-loop-row l =
    Walked (table l.indices l.decodings l.matches) (frame l.closure l.claimed l.own l.edges) l.row l.units l.place l.used l.kept l.places
    × (length l.used ≡ length l.initial.used)
    × (length l.kept ≡ length l.initial.kept)
    × (length l.places ≡ length l.initial.places)
    × (l.rows ≡ no_rows (length l.indices))
