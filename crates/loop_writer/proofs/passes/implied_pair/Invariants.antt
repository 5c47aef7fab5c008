-- `implied_pair` meets its contract. The invariant: what was kept so far, continued over the entries that are left, comes to the rule over all.
-- Assumes nothing.
use Rattle.loop_writer.proofs.Pairs.{Viewed}
use Rattle.loop_writer.proofs.passes.implied_pair.Given as goal

abbrev pub invariant-loop-entry : goal.invariant-loop-entry
invariant-loop-entry l = Viewed l.entry-items l.views l.entry-index
