-- `judging::flags_at_0` meets its contract: each flag counts 1 at the most, so that the sum fits.
-- Assumes nothing.
use Prim.Native.Nat.{◌≤◌}
use mathlib.Core.Bool.{Bool, true, false}
use native.Mathlib.Omega.{arith}
use Rattle.judging.specs.Judging.{at0}
use Rattle.judging.proofs.flags_at_0.Goals as goal

small : (flag : Bool) → at0 flag ≤ 1
small true = omega arith
small false = omega arith

pub overflow_add-result : goal.overflow_add-result
overflow_add-result c =
    let h = c.args.hierarchy in
    omega (arith, c.at_0.ensures, c.at_0-2.ensures, small h.no_view, small h.no_temporal)

pub overflow_add-result-2 : goal.overflow_add-result-2
overflow_add-result-2 c =
    let h = c.args.hierarchy in
    omega (arith, c.at_0.ensures, c.at_0-2.ensures, c.at_0-3.ensures, small h.no_view, small h.no_temporal, small h.no_spatial)

pub overflow_add-result-3 : goal.overflow_add-result-3
overflow_add-result-3 c =
    let h = c.args.hierarchy in
    omega (arith, c.at_0.ensures, c.at_0-2.ensures, c.at_0-3.ensures, c.at_0-4.ensures, small h.no_view, small h.no_temporal, small h.no_spatial, small h.no_quality)
