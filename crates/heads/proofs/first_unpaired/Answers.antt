-- `heads::first_unpaired` meets its contract. The invariant: none of the rows so far is a head without an assembly. The measure is
-- the number of rows left. Assumes nothing.
use mathlib.Core.Bool.{true, false}
use mathlib.Core.List.{[]}
use mathlib.Core.Path.{refl, sym, ◌∙◌}
use native.Mathlib.Omega.{arith}
use borrow.Author.Count.{below_more}
use Rattle.combinators.proofs.Seeking.{seek_here, seek_end}
use Rattle.rows.specs.Table.{table}
use Rattle.heads.specs.Units.{frame}
use Rattle.heads.proofs.Tested.{head_tested, head_layer, is_unpaired, no_head}
use Rattle.heads.proofs.first_unpaired.Goals.{then-member-claimed+else-not-complete, else-member-claimed}
use Rattle.heads.proofs.first_unpaired.Goals as goal

pub loop-row-init : goal.loop-row-init
loop-row-init c = c.requires.2

pub bounds-claimed-row : goal.bounds-claimed-row
bounds-claimed-row c = omega (arith, c.requires.1)

pub assemble-complete-requires : goal.assemble-complete-requires
assemble-complete-requires c =
    let a = c.args in
    let t = table a.indices.now a.decodings.now a.matches.now in
    let f = frame a.closure a.claimed.now [] a.edges.now in
    let row = c.loop-row.row in
    (c.requires.0, rw c.from-layer.ensures (head_layer t f row c.ranges.closure.fits (head_tested t f row _ true (rw c.from-layer.ensures at c.member.ensures) c.if-member-claimed.true)), refl)

pub returns-then-not-complete : goal.returns-then-not-complete
returns-then-not-complete c =
    let a = c.args in
    let t = table a.indices.now a.decodings.now a.matches.now in
    let f = frame a.closure a.claimed.now [] a.edges.now in
    let loop = c.loop-row in
    seek_here _ _ loop.row c.loop-row-test.true loop.invariant
    (is_unpaired t f loop.row (head_tested t f loop.row _ true (rw c.from-layer.ensures at c.member.ensures) c.if-member-claimed.true) false
    (sym (rw c.from-layer.ensures at c.assemble-complete.ensures.complete) ∙ c.if-not-complete.true))

pub loop-row-preserved : goal.loop-row-preserved
loop-row-preserved c =
    let a = c.args in
    let t = table a.indices.now a.decodings.now a.matches.now in
    let f = frame a.closure a.claimed.now [] a.edges.now in
    let loop = c.loop-row in
    elim c.if-member-claimed.branch [
      | then-member-claimed+else-not-complete w ↦
          below_more _ _ loop.invariant
          (is_unpaired t f loop.row (head_tested t f loop.row _ true (rw c.from-layer.ensures at c.member.ensures) w.if-member-claimed.true) true
          (sym (rw c.from-layer.ensures at w.assemble-complete.ensures.complete) ∙ w.if-not-complete.false))
      | else-member-claimed w ↦
          below_more _ _ loop.invariant (no_head t f loop.row (head_tested t f loop.row _ false (rw c.from-layer.ensures at c.member.ensures) w.if-member-claimed.false))
    ]

pub returns : goal.returns
returns c =
    let loop = c.loop-row in
    seek_end _ _ _ refl (λ k h. loop.invariant k (omega (arith, c.loop-row-test.false)))
