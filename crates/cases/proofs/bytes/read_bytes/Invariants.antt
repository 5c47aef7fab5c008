-- `cases::read_bytes` meets its contract. The loop's invariant: no more is kept than the room has.
-- Assumes nothing.
use Rattle.std.proofs.Common.{◌≤◌}
use Rattle.cases.proofs.bytes.read_bytes.Given as goal

abbrev pub invariant-loop-word : goal.invariant-loop-word
invariant-loop-word l = (goal.iterator-loop-word).can_next l.word-iterator × (goal.iterator-loop-word).is_finite l.word-iterator × (l.count ≤ 2048)
