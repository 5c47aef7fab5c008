-- `lay_descriptors` meets its contract.
-- Assumes nothing.
use Rattle.point_rows.proofs.Laying.{Laying}
use Rattle.program_points.specs.Places.{counts_at}
use lib.ListN.{length}
use Prim.Native.Nat.{◌-◌}
use Rattle.point_rows.proofs.lay_descriptors.Given as goal

abbrev pub invariant-loop-place : goal.invariant-loop-place
invariant-loop-place l = Laying (counts_at l.program) l.places l.initial.out l.out l.next l.place-index
