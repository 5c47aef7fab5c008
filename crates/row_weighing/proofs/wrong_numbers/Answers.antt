-- `row_weighing::wrong_numbers` meets its contract: no number passed is wrong, and the marks are those of the numbers passed.
-- Assumes nothing.
use Prim.Native.Nat.{ℕ, ◌<◌}
use mathlib.Core.Path.{sym}
use native.Mathlib.Omega.{arith}
use Rattle.judging.proofs.Loops.{passed_start, passed_high, passed_marked, passed_step, passed_end}
use Rattle.row_weighing.proofs.wrong_numbers.Goals as goal

pub loop-number-init : goal.loop-number-init
loop-number-init c = let a = c.args in rw c.no_marks-marks.ensures (passed_start a.own a.list.now)

pub returns-then-own-index : goal.returns-then-own-index
returns-then-own-index c =
    let a = c.args in
    let loop = c.loop-number in
    passed_high a.own a.list.now loop.marks loop.number-index loop.invariant (omega arith) c.from-index.result (sym c.from-index.ensures) c.if-own-index.true

pub returns-then-marks-index : goal.returns-then-marks-index
returns-then-marks-index c =
    let a = c.args in
    let below = c.requires in
    let loop = c.loop-number in
    let index : ℕ = c.from-index.result in
    let low : index < a.own = c.if-own-index.false in
    let small : index < 256 = omega arith in
    passed_marked a.own a.list.now loop.marks loop.number-index loop.invariant (omega arith) index (sym c.from-index.ensures) small c.if-marks-index.true

pub loop-number-preserved : goal.loop-number-preserved
loop-number-preserved c =
    let a = c.args in
    let below = c.requires in
    let loop = c.loop-number in
    let index : ℕ = c.from-index.result in
    let low : index < a.own = c.if-own-index.false in
    let small : index < 256 = omega arith in
    passed_step a.own a.list.now loop.marks loop.number-index loop.invariant (omega arith) index (sym c.from-index.ensures) low small c.if-marks-index.false

pub returns : goal.returns
returns c =
    let a = c.args in
    let loop = c.loop-number in
    passed_end a.own a.list.now loop.marks loop.number-index loop.invariant (omega arith)
