-- `grow_all` meets its contract: what is left to be done gives what is asked for.
-- Assumes nothing.
use Prim.Native.Nat.{ℕ, ◌+◌, ◌-◌, ◌≤◌, ◌<◌}
use mathlib.Core.Path.{◌≡◌, ap, ◌∙◌}
use native.Mathlib.Omega.{arith}
use Rattle.kept_closures.specs.Kept.{grown_at, steps_from}
use Rattle.kept_closures.proofs.Steps.{step_turn, step_end}
use Rattle.kept_closures.proofs.Columns.grow_all.Goals as goal

pub loop-upper-init : goal.loop-upper-init
loop-upper-init c =
    let h = c.requires in
    let a = c.args in
    let same : 64 - (a.index + 1) ≡ 63 - a.index = omega arith in
    (omega arith, ap (λ (n : ℕ). steps_from (grown_at a.present a.own a.index) (a.index + 1) n a.self.now) same)

pub loop-upper-preserved : goal.loop-upper-preserved
loop-upper-preserved c =
    let a = c.args in
    let at = c.loop-upper in
    let inside : at.upper < 64 = omega arith in
    (omega arith, ap (steps_from (grown_at a.present a.own a.index) (at.upper + 1) (64 - (at.upper + 1))) c.grow.ensures ∙ step_turn (grown_at a.present a.own a.index) at.upper at.self inside ∙ at.invariant.1)

pub returns : goal.returns
returns c =
    let a = c.args in
    let at = c.loop-upper in
    let past : 64 ≤ at.upper = omega arith in
    step_end (grown_at a.present a.own a.index) at.upper at.self past ∙ at.invariant.1
