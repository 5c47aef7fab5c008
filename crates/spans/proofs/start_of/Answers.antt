-- `spans::start_of` meets its contract (Measuring has the laws). The invariant: no row before this one is of the closure. Assumes nothing.
use mathlib.Core.List.{[]}
use mathlib.Core.Path.{◌≡◌, sym, ◌∙◌}
use native.Mathlib.Omega.{arith}
use borrow.Author.Count.{below_more}
use lib.ListN.{length}
use Rattle.rows.specs.Table.{table}
use Rattle.spans.proofs.Measuring.{start_here, start_none}
use Rattle.spans.proofs.start_of.Goals as goal

pub loop-row-init : goal.loop-row-init
loop-row-init c = (omega arith, λ k h. absurd (omega arith))

pub returns-then-member : goal.returns-then-member
returns-then-member c =
    let at = c.loop-row in
    let a = c.args in
    start_here (table a.indices.now a.decodings.now []) a.closure at.row c.loop-row-test.true at.invariant.1
    (rw c.from.ensures at (sym c.member.ensures ∙ c.if-member.true))

pub loop-row-preserved : goal.loop-row-preserved
loop-row-preserved c =
    let at = c.loop-row in
    (omega arith, below_more _ _ at.invariant.1 (rw c.from.ensures at (sym c.member.ensures ∙ c.if-member.false)))

pub returns : goal.returns
returns c =
    let a = c.args in
    let all : c.loop-row.row ≡ length a.indices.now = omega arith in
    start_none (table a.indices.now a.decodings.now []) a.closure c.loop-row.row all (omega arith) c.loop-row.invariant.1
