-- `weigh_points` meets its contract. The invariant: what the rows passed come to, continued over those that are left, is the answer.
-- Assumes nothing.
use Prim.Native.Nat.{◌-◌, ◌*◌, ◌≤◌}
use mathlib.Core.Path.{◌≡◌}
use lib.ListN.{drop}
use Rattle.point_weights.specs.Rows.{twelves, rows_in}
use Rattle.point_weights.specs.Weighing.{nothing_weighed, weighed_after}
use Rattle.point_weights.proofs.weigh_points.Given as goal

abbrev pub invariant-loop-i : goal.invariant-loop-i
invariant-loop-i l = (l.i ≤ l.count) × (weighed_after l.weighed (twelves (l.count - l.i) (drop (l.i * 12) l.points)) ≡ weighed_after nothing_weighed (rows_in l.points)) × (l.weighed.references ≤ l.i * 255) × (l.weighed.layers ≤ l.i * 255) × (l.weighed.size ≤ l.i * 255)
