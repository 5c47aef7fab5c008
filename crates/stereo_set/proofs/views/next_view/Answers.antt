-- `next_view` meets its contract: an entry that is no layer is not kept.
-- Assumes nothing.
use mathlib.Core.Path.{◌∙◌, sym}
use Rattle.stereo_set.proofs.views.next_view.Goals as goal

pub returns-then-is_layer : goal.returns-then-is_layer
returns-then-is_layer c = rw (sym c.is_layer.ensures ∙ c.if-is_layer.true) c.add_layer.ensures

pub returns : goal.returns
returns c = rw (sym c.is_layer.ensures ∙ c.if-is_layer.false)
