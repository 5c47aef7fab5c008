-- `laying::put_points` meets its contract. The invariant: the points passed are laid in, and what is left of the lists gives the others.
-- Assumes nothing.
use Rattle.point_writer.proofs.Walking.{Walking}
use Rattle.point_writer.proofs.laying.put_points.Given as goal

abbrev pub invariant-loop-i : goal.invariant-loop-i
invariant-loop-i l = Walking l.points l.references l.layers l.initial.out l.initial.place l.out l.place l.reference l.layer l.i
