-- `pid_held` meets its contract: no index passed has a layer with the PID.
-- Assumes nothing.
use mathlib.Core.Path.{sym, ◌∙◌}
use native.Mathlib.Omega.{arith}
use borrow.Author.Count.{below_more}
use Rattle.combinators.specs.Below.{some_at, at_none}
use Rattle.layer_set.specs.Sets.{entry_at, held_at, pid_held}
use Rattle.layer_set.proofs.changing.pid_held.Goals as goal

pub loop-index-init : goal.loop-index-init
loop-index-init c = (omega arith, λ k h. absurd (omega arith))

pub held_at-requires : goal.held_at-requires
held_at-requires c = tt

pub returns-then-held_at : goal.returns-then-held_at
unfolding pid_held
returns-then-held_at c =
    let a = c.args in
    let at = c.loop-index in
    sym (some_at (λ i. held_at a.present (entry_at a.entries i) i a.pid) 64 at.index (omega arith) (sym c.held_at.ensures ∙ c.if-held_at.true))

pub loop-index-preserved : goal.loop-index-preserved
loop-index-preserved c = (omega arith, below_more _ _ c.loop-index.invariant.1 (sym c.held_at.ensures ∙ c.if-held_at.false))

pub returns : goal.returns
unfolding pid_held
returns c =
    let a = c.args in
    let at = c.loop-index in
    sym (at_none (λ i. held_at a.present (entry_at a.entries i) i a.pid) 64 (λ k h. at.invariant.1 k (omega arith)))
