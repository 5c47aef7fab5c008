-- `judging::wrong_listed` meets its contract. The loop's invariant: no index passed is wrong, and the marks are those of the indices passed.
-- Assumes nothing.
use mathlib.Core.Path.{◌∙◌, sym}
use mathlib.Core.List.{map}
use native.Mathlib.Omega.{arith}
use Rattle.extension.specs.Extension.{layers_of}
use Rattle.records.specs.Records.{plain}
use Rattle.judging.proofs.Loops.{bytes_length, bytes_at, passed_start, passed_high, passed_marked, passed_step, passed_end}
use Rattle.judging.proofs.wrong_listed.Goals as goal

pub loop-byte-init : goal.loop-byte-init
loop-byte-init c = let a = c.args in rw c.no_marks-marks.ensures (passed_start (plain a.own) (map plain (layers_of a.list.now)))

pub returns-then-mark_of-index : goal.returns-then-mark_of-index
returns-then-mark_of-index c =
    let a = c.args in
    let list = a.list.now in
    let loop = c.loop-byte in
    let index = c.mark_of-index in
    let size = bytes_length list in
    let is = bytes_at list loop.byte-index ∙ sym index.ensures.0 in
    passed_high (plain a.own) (map plain (layers_of list)) loop.marks loop.byte-index loop.invariant (omega arith) index.result is (omega arith)

pub returns-then-marks-index : goal.returns-then-marks-index
returns-then-marks-index c =
    let a = c.args in
    let list = a.list.now in
    let loop = c.loop-byte in
    let index = c.mark_of-index in
    let size = bytes_length list in
    let is = bytes_at list loop.byte-index ∙ sym index.ensures.0 in
    passed_marked (plain a.own) (map plain (layers_of list)) loop.marks loop.byte-index loop.invariant (omega arith) index.result is index.ensures.1 c.if-marks-index.true

pub loop-byte-preserved : goal.loop-byte-preserved
loop-byte-preserved c =
    let a = c.args in
    let list = a.list.now in
    let loop = c.loop-byte in
    let index = c.mark_of-index in
    let size = bytes_length list in
    let is = bytes_at list loop.byte-index ∙ sym index.ensures.0 in
    passed_step (plain a.own) (map plain (layers_of list)) loop.marks loop.byte-index loop.invariant (omega arith) index.result is (omega arith) index.ensures.1 c.if-marks-index.false

pub returns : goal.returns
returns c =
    let a = c.args in
    let list = a.list.now in
    let loop = c.loop-byte in
    let size = bytes_length list in
    passed_end (plain a.own) (map plain (layers_of list)) loop.marks loop.byte-index loop.invariant (omega arith)
