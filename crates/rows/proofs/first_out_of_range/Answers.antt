-- `rows::first_out_of_range` meets its contract. The invariant: no row before this one is out of range. Assumes nothing.
use mathlib.Core.Path.{◌≡◌, sym, ◌∙◌}
use native.Mathlib.Omega.{arith}
use borrow.Author.Count.{below_more}
use lib.ListN.{length}
use Rattle.combinators.proofs.Seeking.{seek_here, seek_end}
use Rattle.rows.specs.Table.{table, out_of_range}
use Rattle.rows.proofs.first_out_of_range.Goals as goal

pub loop-row-init : goal.loop-row-init
loop-row-init c = (omega arith, λ k h. absurd (omega arith))

pub returns-then-out_of_range : goal.returns-then-out_of_range
returns-then-out_of_range c =
    let at = c.loop-row in
    let a = c.args in
    seek_here (out_of_range (table a.indices.now a.decodings.now a.matches.now)) _ at.row c.loop-row-test.true at.invariant.1 (sym c.out_of_range.ensures ∙ c.if-out_of_range.true)

pub loop-row-preserved : goal.loop-row-preserved
loop-row-preserved c =
    let at = c.loop-row in
    (omega arith, below_more _ _ at.invariant.1 (sym c.out_of_range.ensures ∙ c.if-out_of_range.false))

pub returns : goal.returns
returns c =
    let a = c.args in
    let all : c.loop-row.row ≡ length a.indices.now = omega arith in
    sym all ∙ seek_end (out_of_range (table a.indices.now a.decodings.now a.matches.now)) _ _ all c.loop-row.invariant.1
