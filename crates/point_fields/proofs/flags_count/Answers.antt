-- `flags_count` meets its contract.
-- Assumes nothing.
use Rattle.point_fields.proofs.Rows.{flags_count_written}
use Rattle.point_fields.proofs.flags_count.Goals as goal

pub returns : goal.returns
returns c = flags_count_written c.args.count c.requires
