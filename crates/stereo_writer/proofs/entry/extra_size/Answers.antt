-- `entry::extra_size` meets its contract.
-- Assumes nothing.
use mathlib.Core.Path.{◌∙◌, sym}
use Rattle.stereo_writer.proofs.entry.extra_size.Goals as goal

pub returns-then-is_part : goal.returns-then-is_part
returns-then-is_part c = rw (sym c.is_part.ensures ∙ c.if-is_part.true)

pub returns : goal.returns
returns c = rw (sym c.is_part.ensures ∙ c.if-is_part.false)
