-- `join_answers::room::closure_rows` meets its contract. The invariant: the rows of the layers so far are counted (ClosureRows). The measure is the number of layers left.
-- Assumes nothing.
use lib.ListN.{length}
use Rattle.sets.specs.Sets.{members_of}
use Rattle.join_answers.proofs.ClosureRows.{Counted}
use Rattle.join_answers.proofs.room.closure_rows.Given as goal

abbrev pub invariant-loop-left : goal.invariant-loop-left
invariant-loop-left l = Counted l.indices l.closure l.rows l.left

abbrev pub decreases-loop-left : goal.decreases-loop-left
decreases-loop-left l = length (members_of l.left)
