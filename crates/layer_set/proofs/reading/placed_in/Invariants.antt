-- `placed_in` meets its contract. The invariant: where the walk stands, and that what is placed so far, continued over the entries left, is that
-- of all.
-- Assumes nothing.
use Prim.Native.Nat.{◌-◌}
use mathlib.Core.Path.{◌≡◌}
use lib.ListN.{length}
use Rattle.layer_set.specs.Sets.{placed_of}
use Rattle.loop_layers.proofs.Walked.{Standing, left_from}
use Rattle.layer_set.proofs.Walked.{placed_with}
use Rattle.layer_set.proofs.reading.placed_in.Given as goal

abbrev pub invariant-loop-at : goal.invariant-loop-at
invariant-loop-at l =
    Standing l.reading l.bytes l.at × (placed_with l.placed (left_from l.reading l.bytes l.at) ≡ placed_of (left_from l.reading l.bytes 0))

abbrev pub decreases-loop-at : goal.decreases-loop-at
decreases-loop-at l = length l.bytes - l.at
