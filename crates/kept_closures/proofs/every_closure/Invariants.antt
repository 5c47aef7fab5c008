-- `every_closure` meets its contract: what is worked out of the lower indices is what the next rests on (Worked).
-- Assumes nothing.
use Prim.Native.Nat.{◌≤◌}
use Rattle.kept_closures.specs.Kept.{layers_by}
use Rattle.kept_closures.proofs.Worked.{Worked}
use Rattle.kept_closures.proofs.every_closure.Given as goal

abbrev pub invariant-loop-index : goal.invariant-loop-index
invariant-loop-index l = (l.index ≤ 64) × Worked (layers_by l.present l.embedded) l.closures l.index
