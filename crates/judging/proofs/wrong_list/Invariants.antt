-- `judging::wrong_list` meets its contract. The loop's invariant: no index passed is wrong, and the marks are those of the indices passed.
-- Assumes nothing.
use mathlib.Core.List.{map}
use Rattle.records.specs.Records.{plain}
use Rattle.judging.proofs.Loops.{Passed}
use Rattle.judging.proofs.wrong_list.Given as goal

abbrev pub invariant-loop-layer : goal.invariant-loop-layer
invariant-loop-layer l = Passed (plain l.own) (map plain l.list) l.marks l.layer-index
