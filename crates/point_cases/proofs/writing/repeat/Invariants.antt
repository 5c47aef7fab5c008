-- `point_cases::repeat` keeps to the list and ends: what is repeated stands before it, and the product of two small numbers is no large one.
-- Assumes nothing.
use Rattle.std.proofs.Common.{◌≤◌, ◌-◌}
use Rattle.point_cases.proofs.writing.repeat.Given as goal

abbrev pub invariant-loop-at : goal.invariant-loop-at
invariant-loop-at l = (l.count ≤ l.at) × (l.end ≤ 3084)
