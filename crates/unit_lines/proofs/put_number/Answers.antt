-- `unit_lines::put_number` meets its contract: the first number of a line, or a later one.
-- Assumes nothing.
use Rattle.unit_lines.proofs.Parts.{first_number, later_number}
use Rattle.text.proofs.Laws.{laid_as}
use borrow.Author.Tests.{ne_eqb}
use Rattle.unit_lines.proofs.put_number.Goals as goal

pub returns-then-i-eq0 : goal.returns-then-i-eq0
returns-then-i-eq0 c =
    let a = c.args in
    laid_as (first_number a.i a.number c.if-i-eq0.true) c.put_decimal.ensures

-- LEFT: no goal of today has the name slice-aggregate-put-labelled
-- slice-aggregate-put-labelled : tie.Need-slice-aggregate-put-labelled
-- slice-aggregate-put-labelled c = search rules

pub returns : goal.returns
returns c =
    let a = c.args in
    laid_as (later_number a.i a.number (ne_eqb _ _ c.if-i-eq0.false)) c.put_labelled.ensures
