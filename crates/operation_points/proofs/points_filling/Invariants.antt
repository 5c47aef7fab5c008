-- `operation_points::points_filling` meets its contract (Judging has the turns). Assumes nothing.
use Prim.Native.Nat.{◌-◌}
use Rattle.operation_points.proofs.Judging.{Passing}
use Rattle.operation_points.proofs.points_filling.Given as goal

abbrev pub invariant-loop : goal.invariant-loop
invariant-loop l = Passing l.payload l.count l.first (l.count - l.counter) l.at
