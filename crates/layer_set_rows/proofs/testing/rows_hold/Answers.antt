-- `rows_hold` meets its contract: by their length, by their widths, and by each row.
-- Assumes nothing.
use mathlib.Core.Path.{sym, ◌∙◌}
use Rattle.layer_set_rows.proofs.Tests.{wrong_length, some_wide, rows_decide}
use Rattle.layer_set_rows.proofs.testing.rows_hold.Goals as goal

pub returns-then-rows-ne5120 : goal.returns-then-rows-ne5120
returns-then-rows-ne5120 c = wrong_length c.args.rows.now c.if-rows-ne5120.true

pub returns-then-some_too_wide : goal.returns-then-some_too_wide
returns-then-some_too_wide c = some_wide c.args.rows.now c.if-rows-ne5120.false (sym c.some_too_wide.ensures ∙ c.if-some_too_wide.true)

pub rows_right-requires : goal.rows_right-requires
rows_right-requires c = (c.if-rows-ne5120.false, sym c.some_too_wide.ensures ∙ c.if-some_too_wide.false)

pub returns : goal.returns
returns c = rows_decide c.args.rows.now c.if-rows-ne5120.false (sym c.some_too_wide.ensures ∙ c.if-some_too_wide.false) c.rows_right.result c.rows_right.ensures
