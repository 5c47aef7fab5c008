-- `find_layers` meets its contract. The invariant: where the walk stands, and that the layers so far, continued over the entries left, are those of all.
-- Assumes nothing.
use Prim.Native.Nat.{◌-◌}
use mathlib.Core.Path.{◌≡◌}
use lib.ListN.{length}
use Rattle.stereo_set.specs.Views.{no_views, layers_after}
use Rattle.stereo_set.specs.Reading.{views_in}
use Rattle.stereo_set.proofs.Walk.{Standing, views_from}
use Rattle.stereo_set.proofs.reader.find_layers.Given as goal

abbrev pub invariant-loop-at : goal.invariant-loop-at
invariant-loop-at l = Standing l.bytes l.at × (layers_after l.layers (views_from l.bytes l.at) ≡ layers_after no_views (views_in l.bytes))

abbrev pub decreases-loop-at : goal.decreases-loop-at
decreases-loop-at l = length l.bytes - l.at
