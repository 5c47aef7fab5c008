-- `too_wide` meets its contract: the PID is tested, then the record.
-- Assumes nothing.
use mathlib.Core.Path.{◌∙◌}
use native.Mathlib.Omega.{arith}
use Rattle.loop_writer.proofs.Entries.{entry_fine, entry_wide}
use Rattle.loop_writer.proofs.entry.too_wide.Goals as goal

pub returns-then-entry-gt8191 : goal.returns-then-entry-gt8191
returns-then-entry-gt8191 c = entry_wide c.args.entry (omega arith)

pub returns : goal.returns
returns c = c.record_too_wide.ensures ∙ entry_fine c.args.entry (omega arith) (omega arith)
