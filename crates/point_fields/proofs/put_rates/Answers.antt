-- `put_rates` meets its contract: one field after another.
-- Assumes nothing.
use Rattle.buffers.proofs.Laws.{laid_as, laid_then}
use Rattle.point_fields.proofs.Rows.{row_fits, rates_in}
use Rattle.point_fields.proofs.put_rates.Goals as goal

pub rates-byte-requires : goal.rates-byte-requires
rates-byte-requires c = let f = (row_fits c.args.row.now c.requires.1) in (f.average_flag, f.maximum_flag, f.idc, f.temporal_id)

pub put_frame_rate-second-requires : goal.put_frame_rate-second-requires
put_frame_rate-second-requires c = (row_fits c.args.row.now c.requires.1).indicator

pub put_bit_rate-third-requires : goal.put_bit_rate-third-requires
put_bit_rate-third-requires c = (row_fits c.args.row.now c.requires.1).average

pub put_bit_rate-requires : goal.put_bit_rate-requires
put_bit_rate-requires c = (row_fits c.args.row.now c.requires.1).maximum

pub returns : goal.returns
returns c = laid_as (rates_in c.args.row.now) (laid_then (laid_as c.rates-byte.ensures c.put-first.ensures) (laid_then c.put_frame_rate-second.ensures (laid_then c.put_bit_rate-third.ensures c.put_bit_rate.ensures)))
