-- `lay_references` meets its contract.
-- Assumes nothing.
use Rattle.point_rows.proofs.Laying.{Laying}
use Rattle.program_points.specs.Places.{value_at}
use Rattle.operation_points.specs.Values.{reference_bytes}
use lib.ListN.{length}
use Prim.Native.Nat.{◌-◌}
use Rattle.point_rows.proofs.lay_references.Given as goal

abbrev pub invariant-loop-place : goal.invariant-loop-place
invariant-loop-place l = Laying (λ at. reference_bytes (value_at l.program at)) l.places l.initial.out l.out l.next l.place-index
