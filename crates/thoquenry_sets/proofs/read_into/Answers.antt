-- `read_into` meets its contract: what reading answered is laid in.
-- Assumes nothing.
use mathlib.Core.Path.{ap, ◌∙◌}
use Rattle.layer_set.specs.declared.reading.SetRead.{SetRead}
use Rattle.thoquenry_sets.specs.Calls.{changed_laid}
use Rattle.thoquenry_sets.proofs.read_into.Goals as goal

pub returns : goal.returns
returns c =
    let a = c.args in
    c.lay_changed.ensures
    ∙ ap (λ (r : SetRead). changed_laid r.outcome r.«set» a.layers.now a.stored.now) c.read_set-read.ensures
