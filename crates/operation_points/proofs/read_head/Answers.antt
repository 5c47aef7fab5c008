-- `operation_points::read_head` meets its contract: each way is a case of the definition (Judging). Assumes nothing.
use Rattle.operation_points.proofs.Judging.{head_empty, head_misfit, head_fits}
use Rattle.operation_points.proofs.read_head.Goals as goal

pub returns-then-payload-eq0 : goal.returns-then-payload-eq0
returns-then-payload-eq0 c = head_empty c.args.payload.now c.if-payload-eq0.true

pub returns-then-payload-count_at : goal.returns-then-payload-count_at
returns-then-payload-count_at c = head_misfit c.args.payload.now (λ i. (c.shared_slice_known-1.given i).fits) (rw c.from.ensures at c.if-payload-count_at.true)

pub returns : goal.returns
returns c = rw c.from.ensures (head_fits c.args.payload.now (λ i. (c.shared_slice_known-2-1.given i).fits) (rw c.from.ensures at c.if-payload-count_at.false))
