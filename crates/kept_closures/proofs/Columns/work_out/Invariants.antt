-- `work_out` meets its contract: what is left to be worked out gives what is asked for.
-- Assumes nothing.
use Prim.Native.Nat.{◌-◌, ◌≤◌}
use mathlib.Core.Path.{◌≡◌}
use Rattle.kept_closures.specs.Kept.{layers_by, steps_from, worked_by, fresh_columns}
use Rattle.kept_closures.proofs.Columns.work_out.Given as goal

abbrev pub invariant-loop-index : goal.invariant-loop-index
invariant-loop-index l =
    (l.index ≤ 64)
    × (steps_from (worked_by l.present l.embedded) l.index (64 - l.index) l.kept ≡ fresh_columns (layers_by l.present l.embedded))
