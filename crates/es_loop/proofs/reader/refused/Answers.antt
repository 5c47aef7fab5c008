-- `es_loop::refused` meets its contract: its entries are the blank ones.
-- Assumes nothing.
use Rattle.std.specs.Prelude.{Err}
use mathlib.Core.Path.{ap}
use mathlib.Core.List.{List}
use Rattle.loop_entries.specs.declared.Entry.{Entry}
use Rattle.es_loop.proofs.reader.refused.Goals as goal

pub returns : goal.returns
returns c =
    ap (λ (l : List Entry). record { outcome = Err c.args.refusal; count = 0; entries = l }) c.blank_entries.ensures
