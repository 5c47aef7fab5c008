-- `scanning::skipping::run_from` meets its contract. The invariant: the packets so far are a run, and the fourth byte of its last one is known. The measure is the number
-- of packets left. Assumes nothing.
use native.Mathlib.Omega.{arith}
use mathlib.Core.Path.{refl, sym, ◌∙◌}
use Rattle.scanning.proofs.Looking.{running_start, running_turn}
use Rattle.scanning.proofs.skipping.run_from.Goals as goal

pub loop-last-init : goal.loop-last-init
loop-last-init c =
    let a = c.args in
    running_start a.bytes.now a.second a.third a.from a.packets c.requires.0 refl

pub overflow_add-last : goal.overflow_add-last
overflow_add-last c = omega (arith, c.loop-last.invariant.runs.inside)

pub ordinary_fourth-next-requires : goal.ordinary_fourth-next-requires
ordinary_fourth-next-requires c = tt

pub begins_with-requires : goal.begins_with-requires
begins_with-requires c = tt

pub returns-then-not-begins_with : goal.returns-then-not-begins_with
returns-then-not-begins_with c = c.loop-last.invariant.runs

pub loop-last-preserved : goal.loop-last-preserved
loop-last-preserved c =
    let a = c.args in
    running_turn a.bytes.now a.second a.third a.from a.packets c.loop-last.invariant (omega arith) c.ordinary_fourth-next.ensures
    (sym c.begins_with.ensures ∙ c.if-not-begins_with.false)

pub returns : goal.returns
returns c = c.loop-last.invariant.runs
