-- `unit_writing::Output::write_rows` is safe and ends: the lines so far stay within the text.
-- Assumes nothing.
use Rattle.std.proofs.Common.{◌≤◌, length}
use Rattle.unit_writing.proofs.Output.write_rows.Given as goal

abbrev pub invariant-loop-row : goal.invariant-loop-row
invariant-loop-row l = l.end ≤ length l.self.text.now
