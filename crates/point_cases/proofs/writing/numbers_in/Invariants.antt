-- `point_cases::numbers_in` keeps to the list and ends: the words are cut one after another, and the numbers so far find room.
-- Assumes nothing.
use Rattle.std.proofs.Common.{◌≤◌, IfSome}
use Rattle.point_cases.proofs.writing.numbers_in.Given as goal

abbrev pub invariant-loop-word : goal.invariant-loop-word
invariant-loop-word l =
    IfSome l.count (λ end. end ≤ 3084)
    × goal.iterator-loop-word.can_next l.word-iterator
    × goal.iterator-loop-word.is_finite l.word-iterator
