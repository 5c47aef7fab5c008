-- `descriptors::find_records` meets its contract. The loop's invariant: what was found so far, as it is seen, and the kinds of the bytes left,
-- come to what is seen of all; and the list of the first record lies within the bytes.
-- Assumes nothing.
use Prim.Native.Nat.{◌-◌, ◌≤◌}
use mathlib.Core.Path.{◌≡◌}
use lib.ListN.{length, drop}
use Rattle.descriptors.specs.Looking.{kinds_of, seen_of}
use Rattle.descriptors.specs.Finding.{Within, seen_by}
use Rattle.descriptors.proofs.Steps.{seen_after}
use Rattle.descriptors.proofs.looking.find_records.Given as goal

abbrev pub invariant-loop-at : goal.invariant-loop-at
invariant-loop-at l =
    (l.at ≤ length l.info)
    × Within l.info l.found.«record» l.found.end
    × (seen_after (seen_by l.info l.found) (kinds_of l.reading (drop l.at l.info)) ≡ seen_of l.reading l.info)

abbrev pub decreases-loop-at : goal.decreases-loop-at
decreases-loop-at l = length l.info - l.at
