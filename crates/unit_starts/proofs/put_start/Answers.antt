-- `unit_starts::put_start` meets its contract: a place that the list has not is passed over. Assumes nothing.
use mathlib.Core.Path.{sym}
use lib.Seq.{set_out}
use Rattle.unit_starts.proofs.put_start.Goals as goal

pub returns-else-at-starts : goal.returns-else-at-starts
returns-else-at-starts c = sym (set_out c.args.starts.now c.args.at c.args.packet c.if-at-starts.false)
