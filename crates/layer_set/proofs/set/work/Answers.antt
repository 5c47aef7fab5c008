-- `work` meets its contract: the columns are those that are worked out afresh.
-- Assumes nothing.
use mathlib.Core.Path.{ap}
use Rattle.kept_closures.specs.declared.Columns.{Columns}
use Rattle.layer_set.specs.Sets.{set_with}
use Rattle.layer_set.proofs.set.work.Goals as goal

pub returns : goal.returns
returns c =
    let a = c.args in
    ap (λ (k : Columns). set_with a.placed.layers a.placed.entries k) c.work_out-stored.ensures
