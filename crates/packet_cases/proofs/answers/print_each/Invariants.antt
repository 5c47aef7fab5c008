-- `packet_cases::print_each` is safe and ends: the units printed so far have no more rows than there are.
-- Assumes nothing.
use Rattle.std.proofs.Common.{◌≤◌}
use Rattle.packet_cases.proofs.answers.print_each.Given as goal

abbrev pub invariant-loop-size : goal.invariant-loop-size
invariant-loop-size g l =
    (l.at ≤ 512)
    × (goal.iterator-loop-size g).can_next l.size-iterator
    × (goal.iterator-loop-size g).is_finite l.size-iterator
