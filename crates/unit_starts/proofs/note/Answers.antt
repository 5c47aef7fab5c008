-- `unit_starts::note` meets its contract: each case of what a packet gives is a case of the definition. Assumes nothing.
use Prim.Native.Nat.{ℕ}
use mathlib.Core.Path.{sym, ap, ◌∙◌}
use Rattle.scanning.specs.declared.events.Event.{Event}
use Rattle.unit_starts.specs.declared.Mark.{Mark}
use Rattle.unit_starts.specs.Finding.{lower_of, noted}
use Rattle.unit_starts.proofs.note.Goals as goal

pub returns-in-Fault : goal.returns-in-Fault
returns-in-Fault c =
    let a = c.args in
    ap (λ (m : Mark). record { fault = m; refusal = a.found.refusal; rows = a.found.rows }) c.lower.ensures
    ∙ sym (ap (λ (e : Event). noted a.number e a.found) c.in-Fault.is)

pub returns-in-NotRead : goal.returns-in-NotRead
returns-in-NotRead c =
    let a = c.args in
    ap (λ (m : Mark). record { fault = a.found.fault; refusal = m; rows = a.found.rows })
    (c.lower-in-NotRead.ensures ∙ ap (λ (n : ℕ). lower_of a.found.refusal n a.number) c.number.ensures)
    ∙ sym (ap (λ (e : Event). noted a.number e a.found) c.in-NotRead.is)

pub returns-in-Unit : goal.returns-in-Unit
returns-in-Unit c =
    let a = c.args in sym (ap (λ (e : Event). noted a.number e a.found) c.in-Unit.is)
