-- `row_laying::lay_listed` meets its contract. The invariant: the layers passed stand after the head, and 0 after them.
-- Assumes nothing.
use Prim.Native.Nat.{◌-◌, ◌≤◌}
use mathlib.Core.List.{◌++◌, map}
use mathlib.Core.Path.{◌≡◌}
use lib.ListN.{length, take}
use Rattle.combinators.specs.Padding.{pad_to}
use Rattle.extension.specs.Extension.{layers_of}
use Rattle.entry_rows.specs.Rows.{layer_number}
use Rattle.row_laying.proofs.lay_listed.Given as goal

abbrev pub invariant-loop-i : goal.invariant-loop-i
invariant-loop-i l = (l.i ≤ length l.list) × (length l.row ≡ 80) × (l.row ≡ take 16 l.initial.row ++ pad_to 64 0 (map layer_number (take l.i (layers_of l.list))))
