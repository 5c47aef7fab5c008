-- `work_out` meets its contract: what is left to be worked out gives what is asked for.
-- Assumes nothing.
use Prim.Native.Nat.{◌+◌, ◌-◌, ◌≤◌, ◌<◌}
use mathlib.Core.Path.{ap, ◌∙◌}
use native.Mathlib.Omega.{arith}
use Rattle.kept_closures.specs.Kept.{layers_by, steps_from, worked_by}
use Rattle.kept_closures.proofs.Steps.{step_turn, step_end}
use Rattle.kept_closures.proofs.Worked.{worked_out}
use Rattle.kept_closures.proofs.Columns.work_out.Goals as goal

pub loop-index-init : goal.loop-index-init
loop-index-init c = (omega arith, worked_out (layers_by c.args.present c.args.embedded.now))

pub loop-index-preserved : goal.loop-index-preserved
loop-index-preserved c =
    let a = c.args in
    let at = c.loop-index in
    let inside : at.index < 64 = omega arith in
    (omega arith, ap (steps_from (worked_by a.present a.embedded.now) (at.index + 1) (64 - (at.index + 1))) c.work_out_at.ensures ∙ step_turn (worked_by a.present a.embedded.now) at.index at.kept inside ∙ at.invariant.1)

pub returns : goal.returns
returns c =
    let a = c.args in
    let at = c.loop-index in
    let past : 64 ≤ at.index = omega arith in
    step_end (worked_by a.present a.embedded.now) at.index at.kept past ∙ at.invariant.1
