-- `lay_streams` meets its contract.
-- Assumes nothing.
use Rattle.point_rows.proofs.Laying.{Laying}
use Rattle.program_points.specs.Places.{value_at}
use Rattle.program_points.specs.Told.{streams_of}
use lib.ListN.{length}
use Prim.Native.Nat.{◌-◌}
use Rattle.point_rows.proofs.lay_streams.Given as goal

abbrev pub invariant-loop-place : goal.invariant-loop-place
invariant-loop-place l = Laying (λ at. streams_of l.layers (value_at l.program at)) l.places l.initial.out l.out l.next l.place-index
