-- `read_view` meets its contract: the entry that is answered, and what is found behind its head.
-- Assumes nothing.
use mathlib.Core.Path.{◌∙◌, ap, ap₂}
use Rattle.combinators.specs.Lists.{part_to_end}
use Rattle.loop_entries.specs.declared.Entry.{Entry}
use Rattle.loop_entries.specs.Entries.{entry_of}
use Rattle.mvc_descriptors.specs.declared.Found.{Found}
use Rattle.mvc_descriptors.specs.Finding.{extension_in}
use Rattle.stereo_set.proofs.reader.read_view.Goals as goal

pub returns : goal.returns
returns c =
    let a = c.args in
    ap₂ (λ (e : Entry) (f : Found). record { entry = e; found = f }) (c.entry_of.ensures ∙ ap entry_of c.read_stream-stream.ensures)
    (c.find_extension.ensures ∙ ap extension_in (part_to_end a.entry.now 5))
