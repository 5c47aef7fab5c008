-- `passes::put_stereo_entries` meets its contract. The invariant: the entries of the rows passed are laid in.
-- Assumes nothing.
use Prim.Native.Nat.{◌-◌, ◌≤◌}
use lib.ListN.{take}
use Rattle.buffers.specs.Buffers.{Laid}
use Rattle.entry_rows.specs.Rows.{entries_below}
use Rattle.stereo_writer.specs.Layout.{stereo_bytes}
use Rattle.stereo_writer.proofs.passes.put_stereo_entries.Given as goal

abbrev pub invariant-loop-i : goal.invariant-loop-i
invariant-loop-i l = (l.i ≤ l.count) × Laid l.initial.out 0 (stereo_bytes l.base l.second (take l.i (entries_below l.numbers l.count))) l.place l.out
