-- `rows_right` meets its contract: every row passed is right.
-- Assumes nothing.
use mathlib.Core.Path.{sym, ◌∙◌}
use native.Mathlib.Omega.{arith}
use borrow.Author.Count.{below_more}
use Rattle.combinators.specs.Below.{at_every}
use Rattle.layer_set_rows.proofs.Tests.{not_every}
use Rattle.layer_set_rows.specs.Buffers.{row_fine, rows_right}
use Rattle.layer_set_rows.proofs.testing.rows_right.Goals as goal

pub loop-index-init : goal.loop-index-init
loop-index-init c = (omega arith, λ k h. absurd (omega arith))

pub row_fine-requires : goal.row_fine-requires
row_fine-requires c = (c.requires.0, omega arith, c.requires.1)

pub returns-then-not-row_fine : goal.returns-then-not-row_fine
unfolding rows_right
returns-then-not-row_fine c =
    let a = c.args in
    let at = c.loop-index in
    sym (not_every (row_fine a.rows.now) 64 at.index (omega arith) (sym c.row_fine.ensures ∙ c.if-not-row_fine.true))

pub loop-index-preserved : goal.loop-index-preserved
loop-index-preserved c = (omega arith, below_more _ _ c.loop-index.invariant.1 (sym c.row_fine.ensures ∙ c.if-not-row_fine.false))

pub returns : goal.returns
unfolding rows_right
returns c =
    let a = c.args in
    let at = c.loop-index in
    sym (at_every (row_fine a.rows.now) 64 (λ k h. at.invariant.1 k (omega arith)))
