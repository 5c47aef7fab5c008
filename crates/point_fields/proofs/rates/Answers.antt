-- `rates` meets its contract.
-- Assumes nothing.
use Rattle.point_fields.proofs.Rows.{rates_written}
use Rattle.point_fields.proofs.rates.Goals as goal

pub returns : goal.returns
returns c = rates_written c.args.average_flag c.args.maximum_flag c.args.idc c.args.temporal_id c.requires.0 c.requires.1 c.requires.2 c.requires.3
