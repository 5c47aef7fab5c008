-- `records::names_in_list` meets its contract. The loop's invariant: the set so far, with the layers of the bytes left, is the set of all.
-- Assumes nothing.
use Prim.Native.Nat.{◌-◌, ◌≤◌}
use mathlib.Core.Path.{◌≡◌}
use mathlib.Core.List.{map}
use lib.ListN.{length, drop}
use Rattle.extension.specs.Extension.{layers_of}
use Rattle.records.specs.Records.{plain, with_indices}
use Rattle.records.proofs.names_in_list.Given as goal

abbrev pub invariant-loop-byte : goal.invariant-loop-byte
invariant-loop-byte l =
    (l.byte-index ≤ length l.list) × (with_indices l.set (map plain (layers_of (drop l.byte-index l.list))) ≡ with_indices 0 (map plain (layers_of l.list)))
