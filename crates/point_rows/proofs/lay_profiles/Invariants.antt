-- `lay_profiles` meets its contract.
-- Assumes nothing.
use Rattle.point_rows.proofs.Laying.{Laying}
use Rattle.program_points.specs.Places.{profiles_at}
use lib.ListN.{length}
use Prim.Native.Nat.{◌-◌}
use Rattle.point_rows.proofs.lay_profiles.Given as goal

abbrev pub invariant-loop-place : goal.invariant-loop-place
invariant-loop-place l = Laying (profiles_at l.program) l.places l.initial.out l.out l.next l.place-index
