-- `add_points` meets its contract.
-- Assumes nothing.
use Prim.Native.Nat.{◌-◌}
use Rattle.point_descriptors.proofs.Adding.{Adding}
use Rattle.point_descriptors.proofs.add_points.Given as goal

abbrev pub invariant-loop : goal.invariant-loop
invariant-loop l = Adding l.initial.places l.count l.base l.payload l.first l.points l.places l.at l.filled (l.points - l.counter)
