-- `loop_entries::read_stream` meets its contract: at bytes, the head's values are those that the code takes.
-- Assumes nothing.
use mathlib.Core.Path.{ap}
use native.Mathlib.Omega.{arith}
use Rattle.combinators.specs.Lists.{part_to_end}
use Rattle.loop_entries.specs.Entries.{marked_stream}
use Rattle.loop_entries.proofs.Heads.{stream_bytes}
use Rattle.loop_entries.proofs.read_stream.Goals as goal

pub returns : goal.returns
returns c =
    let a = c.args in
    let entry = a.entry.now in
    rw (c.mark_seen-seen.ensures, c.look_into.ensures, part_to_end entry 5, c.elementary_pid-pid.ensures)
    (ap (marked_stream a.pair) (stream_bytes a.reading entry (λ i. omega (arith, c.shared_slice_known-4-1.given i))))
