-- `tally_points` meets its contract.
-- Assumes nothing.
use Rattle.program_points.proofs.Tallying.{Tallying}
use lib.ListN.{length}
use Prim.Native.Nat.{◌-◌}
use Rattle.program_points.proofs.tally_points.Given as goal

abbrev pub invariant-loop-place : goal.invariant-loop-place
invariant-loop-place l = Tallying l.layers l.program l.places l.tally l.place-index
