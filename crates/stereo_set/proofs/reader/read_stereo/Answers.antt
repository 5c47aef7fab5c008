-- `read_stereo` meets its contract: the verdict says whether the layers are looked for.
-- Assumes nothing.
use mathlib.Core.Path.{◌∙◌, ap, sym}
use Rattle.stereo_set.specs.Set.{set_by}
use Rattle.stereo_set.specs.Reading.{views_in, stereo_by}
use Rattle.stereo_set.proofs.Kept.{kept_set}
use Rattle.stereo_set.proofs.Walk.{counted_verdict}
use Rattle.stereo_set.proofs.reader.read_stereo.Goals as goal

pub find_layers-requires : goal.find_layers-requires
find_layers-requires c = counted_verdict c.args.bytes.now (sym c.judge.ensures ∙ c.in-Ok.is)

pub returns-in-Err : goal.returns-in-Err
returns-in-Err c = c.refused.ensures ∙ ap (stereo_by c.args.bytes.now) (sym c.in-Err.is ∙ c.judge.ensures)

pub returns-in-Ok : goal.returns-in-Ok
returns-in-Ok c =
    let bytes = c.args.bytes.now in
    c.set_of.ensures
    ∙ ap set_by c.find_layers.ensures
    ∙ kept_set (views_in bytes)
    ∙ ap (stereo_by bytes) (sym c.in-Ok.is ∙ c.judge.ensures)
