-- `row_fine_lem` meets its contract: by the row, and then by its PID.
-- Assumes nothing.
use Prim.Native.Nat.{◌<◌}
use mathlib.Core.Path.{sym, ap, ◌∙◌}
use native.Mathlib.Omega.{arith}
use lib.ListN.{length-take, length-drop}
use Rattle.entry_rows.specs.Rows.{row_too_wide, row_count}
use Rattle.entry_rows.proofs.Judged.{row_part}
use Rattle.entry_rows.proofs.Given.{row_fine_lem}
use Rattle.layer_set_rows.specs.Buffers.{row_right}
use Rattle.layer_set_rows.proofs.Tests.{nothing_there, pid_decides, row_wrong}
use Rattle.layer_set_rows.proofs.testing.row_fine.Goals as goal

pub row_right-requires : goal.row_right-requires
row_right-requires c =
    let rows = c.args.rows.now in
    let i = c.args.index in
    let long = c.requires.0 in
    let inside : i < row_count rows = omega arith in
    (simp (length-take, length-drop) (omega arith), ap row_too_wide (row_part rows i) ∙ row_fine_lem rows c.requires.2 i inside)

pub returns-then-rows-index-eq0 : goal.returns-then-rows-index-eq0
returns-then-rows-index-eq0 c =
    let a = c.args in
    nothing_there a.rows.now a.index (ap (row_right a.index) (sym (row_part a.rows.now a.index)) ∙ sym c.row_right.ensures ∙ c.if-row_right.true) c.if-rows-index-eq0.true

pub returns-then-row_right : goal.returns-then-row_right
returns-then-row_right c =
    let a = c.args in
    pid_decides a.rows.now a.index (ap (row_right a.index) (sym (row_part a.rows.now a.index)) ∙ sym c.row_right.ensures ∙ c.if-row_right.true) c.if-rows-index-eq0.false
    c.pid_again.result c.pid_again.ensures

pub returns : goal.returns
returns c =
    let a = c.args in
    row_wrong a.rows.now a.index (ap (row_right a.index) (sym (row_part a.rows.now a.index)) ∙ sym c.row_right.ensures ∙ c.if-row_right.false)
