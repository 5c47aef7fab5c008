-- `row_weighing::wrong_numbers` meets its contract: no number passed is wrong, and the marks are those of the numbers passed.
-- Assumes nothing.
use Prim.Native.Nat.{◌-◌}
use lib.ListN.{length}
use Rattle.judging.proofs.Loops.{Passed}
use Rattle.row_weighing.proofs.wrong_numbers.Given as goal

abbrev pub invariant-loop-number : goal.invariant-loop-number
invariant-loop-number l = Passed l.own l.list l.marks l.number-index
