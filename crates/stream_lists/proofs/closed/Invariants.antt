-- `stream_lists::closed` meets its contract (Closing has the turns). The measure is the number of members left. Assumes nothing.
use lib.ListN.{length}
use Rattle.sets.specs.Sets.{members_of}
use Rattle.stream_lists.proofs.Closing.{Looking}
use Rattle.stream_lists.proofs.closed.Given as goal

abbrev pub invariant-loop-left : goal.invariant-loop-left
invariant-loop-left l = Looking l.layers l.present l.left

abbrev pub decreases-loop-left : goal.decreases-loop-left
decreases-loop-left l = length (members_of l.left)
