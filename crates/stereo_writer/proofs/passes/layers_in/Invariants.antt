-- `passes::layers_in` meets its contract. The invariant: the layers among the entries of the rows passed.
-- Assumes nothing.
use Prim.Native.Nat.{◌-◌, ◌≤◌}
use mathlib.Core.Path.{◌≡◌}
use mathlib.Core.List.{map}
use lib.ListN.{take}
use Rattle.entry_rows.specs.Rows.{entries_below}
use Rattle.stereo_set.specs.Views.{no_views, layers_after}
use Rattle.stereo_writer.specs.Layout.{view_for}
use Rattle.stereo_writer.proofs.passes.layers_in.Given as goal

abbrev pub invariant-loop-i : goal.invariant-loop-i
invariant-loop-i l = (l.i ≤ l.count) × (l.layers ≡ layers_after no_views (map (view_for l.base l.second) (take l.i (entries_below l.numbers l.count))))
