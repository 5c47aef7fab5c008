-- `put_frame_rate` meets its contract: what idc is says which of the four texts it has.
-- Assumes nothing.
use Rattle.point_lines.proofs.Parts.{no_frame_rate, ticks, a_second, a_longer_second}
use Rattle.text.proofs.Laws.{laid_as, laid_then}
use Rattle.point_lines.proofs.put_frame_rate.Goals as goal

pub returns-then-idc-eq0 : goal.returns-then-idc-eq0
returns-then-idc-eq0 c =
    let a = c.args in
    laid_as (no_frame_rate a.idc a.indicator c.if-idc-eq0.true) c.put.ensures

pub returns-then-idc-eq1 : goal.returns-then-idc-eq1
returns-then-idc-eq1 c =
    let a = c.args in
    laid_as (ticks a.idc a.indicator c.if-idc-eq0.false c.if-idc-eq1.true) (rw c.from.ensures at c.put_labelled.ensures)

pub returns-then-idc-eq2 : goal.returns-then-idc-eq2
returns-then-idc-eq2 c =
    let a = c.args in
    laid_as (a_second a.idc a.indicator c.if-idc-eq0.false c.if-idc-eq1.false c.if-idc-eq2.true) (rw c.from-then-idc-eq2.ensures at c.put_labelled-then-idc-eq2.ensures)

pub returns : goal.returns
returns c =
    let a = c.args in
    laid_as (a_longer_second a.idc a.indicator c.if-idc-eq0.false c.if-idc-eq1.false c.if-idc-eq2.false)
    (laid_then (rw c.from-2.ensures at c.put_labelled-place.ensures) c.put-2.ensures)
