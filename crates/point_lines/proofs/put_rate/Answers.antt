-- `put_rate` meets its contract: the rate, or that there is none.
-- Assumes nothing.
use Rattle.point_lines.proofs.Parts.{no_rate, a_rate}
use Rattle.text.proofs.Laws.{laid_as, laid_then}
use Rattle.point_lines.proofs.put_rate.Goals as goal

pub returns-then-there : goal.returns-then-there
returns-then-there c =
    let a = c.args in
    laid_as (a_rate a.label.now a.number a.there c.if-there.true) (rw c.from.ensures at c.put_labelled.ensures)

pub returns : goal.returns
returns c =
    let a = c.args in
    laid_as (no_rate a.label.now a.number a.there c.if-there.false) (laid_then c.put-place.ensures c.put.ensures)
