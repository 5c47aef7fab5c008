-- `operation_points::judge` meets its contract: what stands before the points says which of the two cases it is. Assumes nothing.
use mathlib.Core.Path.{sym, ap, ◌∙◌}
use Rattle.operation_points.specs.Answer.{HeadRead}
use Rattle.operation_points.specs.Points.{filling_after}
use Rattle.operation_points.proofs.Judging.{head_within}
use Rattle.operation_points.proofs.judge.Goals as goal

pub points_filling-requires : goal.points_filling-requires
points_filling-requires c =
    head_within c.args.payload.now c.in-Some.head (sym (sym c.in-Some.is ∙ c.read_head.ensures))

pub returns-in-None : goal.returns-in-None
returns-in-None c =
    let l = c.args.payload.now in
    ap (λ (h : HeadRead). filling_after h l) (sym c.in-None.is ∙ c.read_head.ensures)

pub returns-in-Some : goal.returns-in-Some
returns-in-Some c =
    let l = c.args.payload.now in
    c.points_filling.ensures ∙ ap (λ (h : HeadRead). filling_after h l) (sym c.in-Some.is ∙ c.read_head.ensures)
