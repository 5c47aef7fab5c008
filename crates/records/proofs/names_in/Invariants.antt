-- `records::names_in` meets its contract. The loop's invariant: the set is that of the indices passed.
-- Assumes nothing.
use Prim.Native.Nat.{◌≤◌}
use mathlib.Core.Path.{◌≡◌}
use mathlib.Core.List.{map}
use lib.ListN.{length, take}
use Rattle.records.specs.Records.{plain, with_indices}
use Rattle.records.proofs.names_in.Given as goal

abbrev pub invariant-loop-index : goal.invariant-loop-index
invariant-loop-index l = (l.index-index ≤ length l.list) × (l.set ≡ with_indices 0 (map plain (take l.index-index l.list)))
