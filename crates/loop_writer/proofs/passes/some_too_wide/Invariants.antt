-- `some_too_wide` meets its contract. The invariant: none of the entries passed has a value that is too wide.
-- Assumes nothing.
use Prim.Native.Nat.{◌≤◌}
use mathlib.Core.Bool.{false}
use mathlib.Core.Path.{◌≡◌}
use lib.ListN.{length, take}
use Rattle.combinators.specs.Lists.{any}
use Rattle.loop_writer.specs.Layout.{too_wide}
use Rattle.loop_writer.proofs.passes.some_too_wide.Given as goal

abbrev pub invariant-loop-entry : goal.invariant-loop-entry
invariant-loop-entry l = (l.entry-index ≤ length l.entry-items) × (any too_wide (take l.entry-index l.entry-items) ≡ false)
