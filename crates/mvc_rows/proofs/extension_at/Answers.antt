-- `extension_at` meets its contract: values that fit.
-- Assumes nothing.
use native.Mathlib.Omega.{arith}
use Rattle.mvc_rows.proofs.Fields.{first_id_small, last_id_small}
use Rattle.mvc_rows.proofs.extension_at.Goals as goal

pub overflow_cast-result : goal.overflow_cast-result
overflow_cast-result c =
    let a = c.args in
    let small = first_id_small a.numbers.now a.start c.requires.1 in
    let same = c.number_at-first_id.ensures in
    omega arith

pub overflow_cast-result-2 : goal.overflow_cast-result-2
overflow_cast-result-2 c =
    let a = c.args in
    let small = last_id_small a.numbers.now a.start c.requires.1 in
    let same = c.number_at-last_id.ensures in
    omega arith

pub returns : goal.returns
returns c = rw (c.number_at-average.ensures, c.number_at-maximum.ensures, c.number_at-least.ensures, c.number_at-greatest.ensures, c.number_at-first_id.ensures, c.number_at-last_id.ensures, c.number_at-no_sei.ensures, c.number_at-no_prefix.ensures)
