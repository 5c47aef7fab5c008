-- `no_view` meets its contract.
-- Assumes nothing.
use mathlib.Core.Path.{ap}
use Rattle.loop_entries.specs.declared.Entry.{Entry}
use Rattle.mvc_descriptors.specs.declared.Found.TheVariants.{Missing}
use Rattle.stereo_set.proofs.views.no_view.Goals as goal

pub returns : goal.returns
returns c = ap (λ (e : Entry). record { entry = e; found = Missing }) c.blank_entry.ensures
