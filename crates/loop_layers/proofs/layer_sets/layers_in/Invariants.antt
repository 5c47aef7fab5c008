-- `loop_layers::layers_in` meets its contract. The invariant: where the walk stands, and that the layers so far, continued over the entries left, are
-- those of all.
-- Assumes nothing.
use Prim.Native.Nat.{◌-◌}
use mathlib.Core.Path.{◌≡◌}
use lib.ListN.{length}
use Rattle.loop_layers.specs.Layers.{layers_of}
use Rattle.loop_layers.proofs.Walked.{Standing, left_from, layers_with}
use Rattle.loop_layers.proofs.layer_sets.layers_in.Given as goal

abbrev pub invariant-loop-at : goal.invariant-loop-at
invariant-loop-at l =
    Standing l.reading l.bytes l.at
    × (layers_with (record { present = l.present; embedded = l.embedded }) (left_from l.reading l.bytes l.at) ≡ layers_of (left_from l.reading l.bytes 0))

abbrev pub decreases-loop-at : goal.decreases-loop-at
decreases-loop-at l = length l.bytes - l.at
