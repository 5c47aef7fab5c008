-- `claims::mark_claimed` meets its contract. The invariant: the rows that a row so far claims are marked (Marking).
-- In the goals the layers are `t1`. Assumes nothing.
use Prim.Native.Nat.{◌≤◌}
use lib.ListN.{length}
use Rattle.claims.specs.Marks.{Stands}
use Rattle.rows.specs.Table.{table}
use Rattle.claims.proofs.Marking.{claimed_below}
use Rattle.claims.proofs.mark_claimed.Given as goal

abbrev pub invariant-loop-row : goal.invariant-loop-row
invariant-loop-row l =
    (l.row ≤ length l.indices)
    × Stands (length l.indices) (claimed_below l.layers l.closure (table l.indices l.decodings l.matches) l.initial.claimed l.row) l.initial.claimed l.claimed
