-- `weigh` meets its contract. The invariant is what is known of the entries weighed.
-- Assumes nothing.
use Rattle.loop_writer.proofs.Weights.{Weighing}
use Rattle.loop_writer.proofs.passes.weigh.Given as goal

abbrev pub invariant-loop-i : goal.invariant-loop-i
invariant-loop-i l = Weighing l.entry-items l.pids l.indices l.weighed l.i
