-- `heads::any_used` meets its contract. The invariant: what is left of the unit has a used row exactly where the whole unit has
-- (Marking). The measure is the number of members left. Assumes nothing.
use lib.ListN.{length}
use Rattle.sets.specs.Sets.{members_of}
use Rattle.heads.proofs.Marking.{Looking}
use Rattle.heads.proofs.any_used.Given as goal

abbrev pub invariant-loop-left : goal.invariant-loop-left
invariant-loop-left l = Looking l.rows l.own l.used l.left

abbrev pub decreases-loop-left : goal.decreases-loop-left
decreases-loop-left l = length (members_of l.left)
