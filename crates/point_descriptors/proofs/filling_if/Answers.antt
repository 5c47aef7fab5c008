-- `filling_if` meets its contract. Assumes nothing.
use Rattle.point_descriptors.proofs.Walking.{fills_if, fills_else}
use mathlib.Core.Path.{sym, ◌∙◌}
use Rattle.point_descriptors.proofs.Adding.{has_body}
use Rattle.point_descriptors.proofs.filling_if.Goals as goal

pub slice_bounds-judge-count : goal.slice_bounds-judge-count
slice_bounds-judge-count c = has_body c.args.tag c.args.body.now (sym c.is_points.ensures ∙ c.if-is_points.true)

pub slice_bounds-judge-start : goal.slice_bounds-judge-start
slice_bounds-judge-start c = has_body c.args.tag c.args.body.now (sym c.is_points.ensures ∙ c.if-is_points.true)

pub returns-then-is_points : goal.returns-then-is_points
returns-then-is_points c = fills_if c.args.tag c.args.body.now c.judge.result (sym c.is_points.ensures ∙ c.if-is_points.true) c.judge.ensures

pub returns : goal.returns
returns c = fills_else c.args.tag c.args.body.now (sym c.is_points.ensures ∙ c.if-is_points.false)
