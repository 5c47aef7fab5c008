-- `judging::wrong_listed` meets its contract. The loop's invariant: no index passed is wrong, and the marks are those of the indices passed.
-- Assumes nothing.
use Prim.Native.Nat.{◌-◌}
use mathlib.Core.List.{map}
use lib.ListN.{length}
use Rattle.extension.specs.Extension.{layers_of}
use Rattle.records.specs.Records.{plain}
use Rattle.judging.proofs.Loops.{Passed}
use Rattle.judging.proofs.wrong_listed.Given as goal

abbrev pub invariant-loop-byte : goal.invariant-loop-byte
invariant-loop-byte l = Passed (plain l.own) (map plain (layers_of l.list)) l.marks l.byte-index
