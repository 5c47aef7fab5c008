-- `es_loop::judge_entries` meets its contract. The invariant: where the walk stands, and what the judging pass knows of the entries so far. Each turn is
-- one step of both, and the ways out are `does_not_fit`, `end_refused` and `end_accepted`.
-- Assumes nothing.
use Prim.Native.Nat.{◌-◌, ◌≤◌}
use lib.ListN.{length}
use Rattle.loop_entries.specs.Entries.{streams_of}
use Rattle.loop_faults.proofs.Passing.{Passed}
use Rattle.es_loop.proofs.Walk.{Cursor}
use Rattle.es_loop.proofs.verdict.judge_entries.Given as goal

abbrev pub invariant-loop-at : goal.invariant-loop-at
invariant-loop-at l =
    Cursor l.reading l.bytes l.count l.at × Passed (streams_of l.reading l.bytes) l.pids l.indices l.fault l.count × (3 ≤ l.fault.number)

abbrev pub decreases-loop-at : goal.decreases-loop-at
decreases-loop-at l = length l.bytes - l.at
