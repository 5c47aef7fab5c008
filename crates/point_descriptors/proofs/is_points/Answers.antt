-- `is_points` meets its contract. Assumes nothing.
use Rattle.point_descriptors.proofs.Adding.{other_tag, no_body, by_extension}
use Rattle.point_descriptors.proofs.is_points.Goals as goal

pub returns-then-tag-ne-EXTENSION_TAG : goal.returns-then-tag-ne-EXTENSION_TAG
returns-then-tag-ne-EXTENSION_TAG c = other_tag c.args.tag c.args.body.now c.if-tag-ne-EXTENSION_TAG.true

pub returns-then-body-eq0 : goal.returns-then-body-eq0
returns-then-body-eq0 c = no_body c.args.tag c.args.body.now c.if-body-eq0.true

pub returns : goal.returns
returns c = by_extension c.args.tag c.args.body.now c.if-tag-ne-EXTENSION_TAG.false c.if-body-eq0.false
