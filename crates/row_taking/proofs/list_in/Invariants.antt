-- `row_taking::list_in` meets its contract. The invariant: the array holds the layers passed, and blanks.
-- Assumes nothing.
use Prim.Native.Nat.{◌-◌, ◌≤◌}
use mathlib.Core.Path.{◌≡◌}
use mathlib.Core.List.{map}
use lib.ListN.{take}
use Rattle.combinators.specs.Padding.{pad_to}
use Rattle.extension.specs.Extension.{no_layer}
use Rattle.entry_rows.specs.Rows.{layer_of}
use Rattle.row_taking.proofs.list_in.Given as goal

abbrev pub invariant-loop-i : goal.invariant-loop-i
invariant-loop-i l = (l.i ≤ l.count) × (l.layers ≡ pad_to 63 no_layer (map layer_of (take l.i l.list)))
