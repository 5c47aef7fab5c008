-- `nothing_placed` meets its contract: no layers, and blanks.
-- Assumes nothing.
use mathlib.Core.List.{List}
use mathlib.Core.Path.{ap₂}
use Rattle.closure.specs.declared.Layers.{Layers}
use Rattle.loop_entries.specs.declared.Entry.{Entry}
use Rattle.layer_set.proofs.set.nothing_placed.Goals as goal

pub returns : goal.returns
returns c = ap₂ (λ (l : Layers) (es : List Entry). record { layers = l; entries = es }) c.no_layers-layers.ensures c.blank_layers-entries.ensures
