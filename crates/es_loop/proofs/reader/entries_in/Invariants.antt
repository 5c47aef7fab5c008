-- `es_loop::entries_in` meets its contract. The invariant: where the walk stands, and that the array holds the entries so far.
-- Assumes nothing.
use Prim.Native.Nat.{◌-◌}
use mathlib.Core.Path.{◌≡◌}
use lib.ListN.{length, take}
use Rattle.loop_entries.specs.Entries.{streams_of, entries_of}
use Rattle.es_loop.proofs.Walk.{Cursor}
use Rattle.es_loop.proofs.reader.entries_in.Given as goal

abbrev pub invariant-loop-at : goal.invariant-loop-at
invariant-loop-at l = Cursor l.reading l.bytes l.count l.at × (l.entries ≡ entries_of (take l.count (streams_of l.reading l.bytes)))

abbrev pub decreases-loop-at : goal.decreases-loop-at
decreases-loop-at l = length l.bytes - l.at
