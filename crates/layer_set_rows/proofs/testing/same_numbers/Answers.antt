-- `same_numbers` meets its contract: the numbers passed are the same.
-- Assumes nothing.
use borrow.Author.Tests.{eq-eqb, ne_eqb}
use mathlib.Core.Path.{sym}
use native.Mathlib.Omega.{arith}
use borrow.Author.Count.{below_more}
use lib.Dec.{eqb}
use lib.ListN.{get_or}
use Rattle.combinators.specs.Below.{at_every}
use Rattle.layer_set_rows.proofs.Tests.{not_every}
use Rattle.layer_set_rows.specs.Buffers.{same_numbers}
use Rattle.layer_set_rows.proofs.testing.same_numbers.Goals as goal

pub loop-i-init : goal.loop-i-init
loop-i-init c = (omega arith, λ k h. absurd (omega arith))

pub returns-then-row-i : goal.returns-then-row-i
unfolding same_numbers
returns-then-row-i c =
    let a = c.args in
    let at = c.loop-i in
    sym (not_every (λ k. eqb (get_or a.row.now k 0) (get_or a.other.now k 0)) 80 at.i (omega arith) (ne_eqb _ _ c.if-row-i.true))

pub loop-i-preserved : goal.loop-i-preserved
loop-i-preserved c = (omega arith, below_more _ _ c.loop-i.invariant.1 (eq-eqb _ _ c.if-row-i.false))

pub returns : goal.returns
unfolding same_numbers
returns c =
    let a = c.args in
    let at = c.loop-i in
    sym (at_every (λ k. eqb (get_or a.row.now k 0) (get_or a.other.now k 0)) 80 (λ k h. at.invariant.1 k (omega arith)))
