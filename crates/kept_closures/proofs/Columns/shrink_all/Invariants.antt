-- `shrink_all` meets its contract: what is left to be done gives what is asked for.
-- Assumes nothing.
use Prim.Native.Nat.{◌-◌, ◌≤◌}
use mathlib.Core.Path.{◌≡◌}
use Rattle.kept_closures.specs.Kept.{shrunk_by, shrunk_above, steps_from}
use Rattle.kept_closures.proofs.Columns.shrink_all.Given as goal

abbrev pub invariant-loop-upper : goal.invariant-loop-upper
invariant-loop-upper l =
    (l.upper ≤ 64)
    × (steps_from (shrunk_by l.present l.index l.embedded) l.upper (64 - l.upper) l.self
    ≡ shrunk_above l.present l.index l.embedded l.initial.self)
