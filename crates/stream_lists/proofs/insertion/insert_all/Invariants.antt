-- `stream_lists::insertion::insert_all` meets its contract (Inserting has the turns). The measure is the number of members left. Assumes nothing.
use lib.ListN.{length}
use Rattle.sets.specs.Sets.{members_of}
use Rattle.stream_lists.proofs.Inserting.{Inserting}
use Rattle.stream_lists.proofs.insertion.insert_all.Given as goal

abbrev pub invariant-loop-left : goal.invariant-loop-left
invariant-loop-left l = Inserting l.initial.members l.count l.place l.new l.members l.end l.at l.left

abbrev pub decreases-loop-left : goal.decreases-loop-left
decreases-loop-left l = length (members_of l.left)
