-- `every_closure` meets its contract: what is worked out of the lower indices is what the next rests on (Worked).
-- Assumes nothing.
use native.Mathlib.Omega.{arith}
use Rattle.kept_closures.proofs.Worked.{each_start, each_next, each_end}
use Rattle.kept_closures.proofs.every_closure.Goals as goal

pub loop-index-init : goal.loop-index-init
loop-index-init c = (omega arith, each_start _)

pub loop-index-preserved : goal.loop-index-preserved
loop-index-preserved c = (omega arith, each_next _ _ _ _ (omega arith) c.loop-index.invariant.1 c.closure_at-closure.ensures)

pub returns : goal.returns
returns c = each_end _ _ _ (omega arith) c.loop-index.invariant.1
