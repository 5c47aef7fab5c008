-- The answers of reading from a payload: the head before the points, where it fits; the first point, or what is wrong with it; and whether the fields fill
-- the payload exactly, `Ok tt`, or not (40), or an ES_count is reserved (41).
-- Assumes nothing.
use Rattle.std.specs.Prelude.{Option, Result}
use Rattle.operation_points.specs.declared.Head.{Head}
use Rattle.operation_points.specs.declared.Point.{Point}
use Rattle.operation_points.specs.declared.PointFault.{PointFault}

abbrev pub HeadRead : Type 0
HeadRead = Option Head

abbrev pub FirstPoint : Type 0
FirstPoint = Result Point PointFault

abbrev pub Filling : Type 0
Filling = Result (Unit {0}) PointFault
