-- `loop_views::implied_pair` meets its contract. The invariant: what was kept so far, continued over the entries that are left, comes to the rule over all.
-- Assumes nothing.
use Prim.Native.Nat.{◌-◌}
use lib.ListN.{length}
use Rattle.loop_views.proofs.Viewing.{Viewed}
use Rattle.loop_views.proofs.implied_pair.Given as goal

abbrev pub invariant-loop-at : goal.invariant-loop-at
invariant-loop-at l = Viewed l.reading l.bytes l.views l.at

abbrev pub decreases-loop-at : goal.decreases-loop-at
decreases-loop-at l = length l.bytes - l.at
