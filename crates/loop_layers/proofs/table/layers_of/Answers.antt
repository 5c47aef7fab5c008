-- `loop_layers::layers_of` meets its contract: the layers are those of the table.
-- Assumes nothing.
use mathlib.Core.Path.{ap}
use Rattle.loop_layers.specs.declared.table.LayerTable.{LayerTable}
use Rattle.loop_layers.proofs.table.layers_of.Goals as goal

pub returns : goal.returns
returns c = ap (λ (t : LayerTable). t.layers) c.table_of-table.ensures
