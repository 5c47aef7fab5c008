-- `put_lists` meets its contract: each count and its list.
-- Assumes nothing.
use Rattle.buffers.proofs.Laws.{laid_as, laid_then}
use Rattle.point_fields.proofs.Rows.{row_fits}
use Rattle.point_bytes.proofs.Lists.{lists_in_lem}
use native.Mathlib.Omega.{arith}
use Rattle.point_bytes.proofs.put_lists.Goals as goal

pub point_head-head-requires : goal.point_head-head-requires
point_head-head-requires c = let f = (row_fits c.args.row.now c.requires.1) in (f.target_ols, f.references)

pub flags_count-count-requires : goal.flags_count-count-requires
flags_count-count-requires c = (row_fits c.args.row.now c.requires.1).layers

pub returns : goal.returns
returns c = let known = c.shared_slice_known-3-1.given in laid_as (lists_in_lem c.args.row.now c.args.references.now c.args.layers.now (λ i. omega (arith, known i))) (laid_then (laid_as c.point_head-head.ensures c.put-first.ensures) (laid_then c.put_references-second.ensures (laid_then (laid_as c.flags_count-count.ensures c.put-third.ensures) c.put.ensures)))
