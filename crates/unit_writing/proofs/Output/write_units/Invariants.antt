-- `unit_writing::Output::write_units` is safe and ends: the units so far have no more rows than there are, and their lines stay within the text.
-- Assumes nothing.
use Rattle.std.proofs.Common.{◌≤◌, length}
use Rattle.unit_writing.proofs.Output.write_units.Given as goal

abbrev pub invariant-loop-size : goal.invariant-loop-size
invariant-loop-size l =
    (l.at ≤ l.rows)
    × (l.end ≤ length l.self.text.now)
    × goal.iterator-loop-size.can_next l.size-iterator
    × goal.iterator-loop-size.is_finite l.size-iterator
