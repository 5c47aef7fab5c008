-- `profile_bytes` meets its contract.
-- Assumes nothing.
use Rattle.program_points.proofs.Tallying.{Summing}
use lib.ListN.{length}
use Prim.Native.Nat.{◌-◌}
use Rattle.program_points.proofs.profile_bytes.Given as goal

abbrev pub invariant-loop-place : goal.invariant-loop-place
invariant-loop-place l = Summing l.program l.places l.bytes l.place-index
