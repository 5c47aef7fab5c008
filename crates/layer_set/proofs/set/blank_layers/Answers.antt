-- `blank_layers` meets its contract: the same at each place.
-- Assumes nothing.
use mathlib.Core.Path.{ap}
use lib.ListN.{replicate}
use Rattle.loop_entries.specs.declared.Entry.{Entry}
use Rattle.layer_set.proofs.set.blank_layers.Goals as goal

pub returns : goal.returns
returns c = ap (λ (e : Entry). replicate 64 e) c.blank_entry-blank.ensures
