-- `add_payload` meets its contract.
-- Assumes nothing.
use mathlib.Core.Path.{sym, ◌∙◌}
use Rattle.point_descriptors.proofs.Adding.{put_one, put_none}
use Rattle.point_descriptors.proofs.add_payload.Goals as goal

pub returns-then-is_points : goal.returns-then-is_points
returns-then-is_points c = put_one c.args.places.now c.args.count c.args.at c.args.tag c.args.body.now (sym c.is_points.ensures ∙ c.if-is_points.true)

pub returns : goal.returns
returns c = put_none c.args.places.now c.args.count c.args.at c.args.tag c.args.body.now (sym c.is_points.ensures ∙ c.if-is_points.false)
