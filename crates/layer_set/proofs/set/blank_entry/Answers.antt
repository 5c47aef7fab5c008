-- `blank_entry` meets its contract: nothing is listed.
-- Assumes nothing.
use mathlib.Core.List.{List}
use mathlib.Core.Path.{ap}
use Rattle.vocabulary.specs.declared.LayerIndex.{LayerIndex}
use Rattle.records.specs.declared.Record.TheVariants.{NoRecord}
use Rattle.layer_set.proofs.set.blank_entry.Goals as goal

pub returns : goal.returns
returns c = ap (λ (l : List LayerIndex). record { stream_type = 0; pid = 0; «record» = NoRecord; embedded = l }) c.no_layers.ensures
