-- `put_frame_rate` meets its contract: the field, or nothing.
-- Assumes nothing.
use mathlib.Core.Path.{sym, ◌∙◌, ap}
use mathlib.Core.Bool.{Bool, cond}
use mathlib.Core.List.{[], ◌∷◌}
use Rattle.syntax.specs.Table.{write_table}
use Rattle.operation_points.specs.Tables.{frame_rate}
use Rattle.buffers.proofs.Laws.{laid_as}
use Rattle.point_fields.proofs.Rows.{frame_rate_written, field_small}
use Rattle.point_fields.proofs.put_frame_rate.Goals as goal

-- LEFT: no goal of today has the name overflow-add-t9
-- add-t9 : tie.Need-overflow-add-t9
-- add-t9 c = search rules

-- LEFT: no goal of today has the name overflow-cast-t10
-- cast-t10 : tie.Need-overflow-cast-t10
-- cast-t10 c = let small : c.before.before.args.indicator < 4096 = field_small c.before.before.args.there c.before.before.args.indicator 4096 c.before.before.requires c.if1.true in omega arith

-- LEFT: no goal of today has the name overflow-cast-t12
-- cast-t12 : tie.Need-overflow-cast-t12
-- cast-t12 c = search rules

pub returns-then-there : goal.returns-then-there
returns-then-there c = laid_as (frame_rate_written c.args.indicator (field_small c.args.there c.args.indicator 4096 c.requires c.if-there.true) ∙ sym (ap (λ (b : Bool). cond b (write_table frame_rate (c.args.indicator ∷ [])) []) c.if-there.true)) c.put.ensures

-- LEFT: no goal of today has the name slice-aggregate-put-2
-- slice-aggregate-put-2 : tie.Need-slice-aggregate-put-2
-- slice-aggregate-put-2 c = search rules

pub returns : goal.returns
returns c = laid_as (sym (ap (λ (b : Bool). cond b (write_table frame_rate (c.args.indicator ∷ [])) []) c.if-there.false)) c.put-2.ensures
