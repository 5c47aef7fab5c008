-- `put_entries` meets its contract. The invariant: the entries passed are laid in, after the empty text at the start.
-- Assumes nothing.
use Rattle.buffers.specs.Buffers.{Laid}
use Prim.Native.Nat.{◌≤◌}
use lib.ListN.{length, take}
use Rattle.combinators.specs.Lists.{gather}
use Rattle.loop_writer.specs.Layout.{entry_bytes}
use Rattle.loop_writer.proofs.passes.put_entries.Given as goal

abbrev pub invariant-loop-entry : goal.invariant-loop-entry
invariant-loop-entry l =
    (l.entry-index ≤ length l.entry-items) × Laid l.initial.out l.initial.place (gather entry_bytes (take l.entry-index l.entry-items)) l.place l.out
