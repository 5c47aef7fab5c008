-- `heads::keep` meets its contract. The invariant, what is left of the unit marked and kept from here on, and each turn are in Marking.
-- The measure is the number of members left. Assumes nothing.
use lib.ListN.{length}
use Rattle.sets.specs.Sets.{members_of}
use Rattle.heads.proofs.Marking.{Keeping}
use Rattle.heads.proofs.keep.Given as goal

abbrev pub invariant-loop-left : goal.invariant-loop-left
invariant-loop-left l = Keeping l.none l.initial.rows l.own l.place l.initial.used l.initial.kept l.rows l.used l.kept l.left l.at

abbrev pub decreases-loop-left : goal.decreases-loop-left
decreases-loop-left l = length (members_of l.left)
