-- `blank_entry` meets its contract: its layers are the blank ones.
-- Assumes nothing.
use mathlib.Core.Path.{ap}
use mathlib.Core.List.{List}
use Rattle.vocabulary.specs.declared.LayerIndex.{LayerIndex}
use Rattle.records.specs.declared.Record.TheVariants.{NoRecord}
use Rattle.stereo_set.proofs.views.blank_entry.Goals as goal

pub returns : goal.returns
returns c = ap (λ (layers : List LayerIndex). record { stream_type = 0; pid = 0; «record» = NoRecord; embedded = layers }) c.no_layers.ensures
