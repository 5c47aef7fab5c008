-- `read_embedded` meets its contract. The loop's invariant: the array holds the layers of the bytes passed, and blanks.
-- Assumes nothing.
use Prim.Native.Nat.{◌≤◌, ◌-◌}
use mathlib.Core.Path.{◌≡◌}
use lib.ListN.{length, take}
use Rattle.combinators.specs.Padding.{pad_to}
use Rattle.extension.specs.Extension.{no_layer, layers_of}
use Rattle.extension.proofs.read_embedded.Given as goal

abbrev pub invariant-loop-i : goal.invariant-loop-i
invariant-loop-i l = (l.i ≤ length l.list) × (l.layers ≡ pad_to 63 no_layer (layers_of (take l.i l.list)))
