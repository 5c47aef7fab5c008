-- `put_set` meets its contract: the first line, and one for each layer.
-- Assumes nothing.
use Rattle.text.proofs.Laws.{laid_then}
use Rattle.stereo_lines.specs.Lines.{set_text}
use Rattle.stereo_lines.proofs.put_set.Goals as goal

-- LEFT: no goal of today has the name slice-aggregate-put
-- slice-aggregate-put : tie.Need-slice-aggregate-put
-- slice-aggregate-put c = search rules

pub returns : goal.returns
unfolding set_text
returns c = laid_then (laid_then c.put-place.ensures c.put_layer-place.ensures) c.put_layer.ensures
