-- `judging::wrong_list` meets its contract. The loop's invariant: no index passed is wrong, and the marks are those of the indices passed.
-- Assumes nothing.
use mathlib.Core.Path.{◌∙◌, sym}
use mathlib.Core.List.{map}
use native.Mathlib.Omega.{arith}
use lib.ListN.{length-map, get_or-map}
use Rattle.extension.specs.Extension.{no_layer}
use Rattle.records.specs.Records.{plain}
use Rattle.judging.proofs.Loops.{passed_start, passed_high, passed_marked, passed_step, passed_end}
use Rattle.judging.proofs.wrong_list.Goals as goal

pub loop-layer-init : goal.loop-layer-init
loop-layer-init c = rw c.no_marks-marks.ensures (passed_start (plain c.args.own) (map plain c.args.list.now))

pub returns-then-mark_of-index : goal.returns-then-mark_of-index
returns-then-mark_of-index c =
    let a = c.args in
    let loop = c.loop-layer in
    let index = c.mark_of-index in
    let size = length-map a.list.now plain in
    let is = get_or-map plain a.list.now loop.layer-index no_layer ∙ sym index.ensures.0 in
    passed_high (plain a.own) (map plain a.list.now) loop.marks loop.layer-index loop.invariant (omega arith) index.result is (omega arith)

pub returns-then-marks-index : goal.returns-then-marks-index
returns-then-marks-index c =
    let a = c.args in
    let loop = c.loop-layer in
    let index = c.mark_of-index in
    let size = length-map a.list.now plain in
    let is = get_or-map plain a.list.now loop.layer-index no_layer ∙ sym index.ensures.0 in
    passed_marked (plain a.own) (map plain a.list.now) loop.marks loop.layer-index loop.invariant (omega arith) index.result is index.ensures.1 c.if-marks-index.true

pub loop-layer-preserved : goal.loop-layer-preserved
loop-layer-preserved c =
    let a = c.args in
    let loop = c.loop-layer in
    let index = c.mark_of-index in
    let size = length-map a.list.now plain in
    let is = get_or-map plain a.list.now loop.layer-index no_layer ∙ sym index.ensures.0 in
    passed_step (plain a.own) (map plain a.list.now) loop.marks loop.layer-index loop.invariant (omega arith) index.result is (omega arith) index.ensures.1 c.if-marks-index.false

pub returns : goal.returns
returns c =
    let a = c.args in
    let loop = c.loop-layer in
    let size = length-map a.list.now plain in
    passed_end (plain a.own) (map plain a.list.now) loop.marks loop.layer-index loop.invariant (omega arith)
