-- `row_laying::put_rows` meets its contract. The invariant: where the walk stands, and that the rows of the entries passed are laid in.
-- Assumes nothing.
use Prim.Native.Nat.{◌-◌}
use mathlib.Core.Path.{◌≡◌}
use lib.ListN.{length, take}
use Rattle.buffers.specs.Buffers.{over}
use Rattle.loop_entries.specs.Entries.{streams_of}
use Rattle.es_loop.proofs.Walk.{Cursor}
use Rattle.row_laying.proofs.Walked.{rows_for}
use Rattle.row_laying.proofs.put_rows.Given as goal

abbrev pub invariant-loop-at : goal.invariant-loop-at
invariant-loop-at l = Cursor l.reading l.bytes l.count l.at × (length l.out ≡ length l.initial.out) × (l.out ≡ over (rows_for (take l.count (streams_of l.reading l.bytes))) l.initial.out)

abbrev pub decreases-loop-at : goal.decreases-loop-at
decreases-loop-at l = length l.bytes - l.at
