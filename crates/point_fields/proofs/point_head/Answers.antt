-- `point_head` meets its contract.
-- Assumes nothing.
use Rattle.point_fields.proofs.Rows.{point_head_written}
use Rattle.point_fields.proofs.point_head.Goals as goal

pub returns : goal.returns
returns c = point_head_written c.args.target_ols c.args.es_count c.requires.0 c.requires.1
