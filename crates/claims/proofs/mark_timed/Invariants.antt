-- `claims::mark_timed` meets its contract. The invariant: what is marked, and what is asked for of the layers that are left (Marking). The measure is the
-- number of layers left. Assumes nothing.
use mathlib.Core.List.{[]}
use lib.ListN.{length}
use Rattle.sets.specs.Sets.{members_of}
use Rattle.rows.specs.Table.{table}
use Rattle.claims.proofs.Marking.{Walked}
use Rattle.claims.proofs.mark_timed.Given as goal

abbrev pub invariant-loop-left : goal.invariant-loop-left
invariant-loop-left l = Walked (table l.indices l.decodings []) l.layers l.time l.initial.marks l.left l.marks

abbrev pub decreases-loop-left : goal.decreases-loop-left
decreases-loop-left l = length (members_of l.left)
