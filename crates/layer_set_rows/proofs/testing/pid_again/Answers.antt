-- `pid_again` meets its contract: no index passed has a layer with the PID.
-- Assumes nothing.
use Prim.Native.Nat.{◌+◌, ◌*◌}
use mathlib.Core.Path.{sym, ◌∙◌}
use native.Mathlib.Omega.{arith}
use borrow.Author.Count.{below_more}
use lib.ListN.{get_or}
use Rattle.combinators.specs.Below.{some_at, at_none}
use Rattle.layer_set_rows.specs.Buffers.{layer_with, pid_again}
use Rattle.layer_set_rows.proofs.testing.pid_again.Goals as goal

pub loop-lower-init : goal.loop-lower-init
loop-lower-init c = (omega arith, λ k h. absurd (omega arith))

pub returns-then-layer_with : goal.returns-then-layer_with
unfolding pid_again
returns-then-layer_with c =
    let a = c.args in
    let at = c.loop-lower in
    sym (some_at (λ j. layer_with (get_or a.rows.now (j * 80 + 2) 0) (get_or a.rows.now (j * 80 + 1) 0) (get_or a.rows.now (a.index * 80 + 1) 0)) a.index at.lower (omega arith)
    (sym c.layer_with.ensures ∙ c.if-layer_with.true))

pub loop-lower-preserved : goal.loop-lower-preserved
loop-lower-preserved c = (omega arith, below_more _ _ c.loop-lower.invariant.1 (sym c.layer_with.ensures ∙ c.if-layer_with.false))

pub returns : goal.returns
unfolding pid_again
returns c =
    let a = c.args in
    let at = c.loop-lower in
    sym (at_none (λ j. layer_with (get_or a.rows.now (j * 80 + 2) 0) (get_or a.rows.now (j * 80 + 1) 0) (get_or a.rows.now (a.index * 80 + 1) 0)) a.index (λ k h. at.invariant.1 k (omega arith)))
