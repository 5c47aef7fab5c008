-- `grow_all` meets its contract: what is left to be done gives what is asked for.
-- Assumes nothing.
use Prim.Native.Nat.{◌-◌, ◌≤◌}
use mathlib.Core.Path.{◌≡◌}
use Rattle.kept_closures.specs.Kept.{grown_at, grown_above, steps_from}
use Rattle.kept_closures.proofs.Columns.grow_all.Given as goal

abbrev pub invariant-loop-upper : goal.invariant-loop-upper
invariant-loop-upper l =
    (l.upper ≤ 64)
    × (steps_from (grown_at l.present l.own l.index) l.upper (64 - l.upper) l.self
    ≡ grown_above l.present l.own l.index l.initial.self)
