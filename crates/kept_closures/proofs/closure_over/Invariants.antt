-- `closure_over` meets its contract. The invariant: what is put together so far, and what comes of those that are left (Putting). The measure is the number of
-- members left. Assumes nothing.
use lib.ListN.{length}
use Rattle.sets.specs.Sets.{members_of}
use Rattle.kept_closures.proofs.Putting.{Putting}
use Rattle.kept_closures.proofs.closure_over.Given as goal

abbrev pub invariant-loop-left : goal.invariant-loop-left
invariant-loop-left l = Putting l.closures l.index l.names l.closure l.left

abbrev pub decreases-loop-left : goal.decreases-loop-left
decreases-loop-left l = length (members_of l.left)
