-- `unit_starts::note_start` meets its contract: each case of what a packet gives is a case of the definition. Assumes nothing.
use mathlib.Core.Path.{sym, ap, ◌∙◌}
use mathlib.Core.List.{map}
use lib.Seq.{sets}
use Rattle.scanning.specs.declared.events.Event.{Event}
use Rattle.unit_starts.specs.Finding.{row_in, packet_in}
use Rattle.unit_starts.proofs.note_start.Goals as goal

pub returns-in-Unit : goal.returns-in-Unit
returns-in-Unit c =
    let a = c.args in
    c.put_start.ensures ∙ sym (ap (λ (e : Event). sets a.starts.now a.at (map packet_in (row_in e))) c.in-Unit.is)
