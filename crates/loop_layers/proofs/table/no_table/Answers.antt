-- `loop_layers::no_table` meets its contract: the layers are those of no entries, and the columns are blank.
-- Assumes nothing.
use mathlib.Core.Path.{ap}
use lib.ListN.{replicate}
use Rattle.closure.specs.declared.Layers.{Layers}
use Rattle.loop_layers.proofs.table.no_table.Goals as goal

pub returns : goal.returns
returns c =
    ap (λ (l : Layers). record { layers = l; pids = replicate 64 0; stream_types = replicate 64 0; channels = replicate 64 (record { 0 = 0 }) })
    c.no_layers.ensures
