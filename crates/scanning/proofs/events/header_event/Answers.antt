-- `scanning::events::header_event` meets its contract: each case of the answer is a case of the definition. Assumes nothing.
use mathlib.Core.Path.{sym, ap}
use Rattle.scanning.specs.Events.{header_event}
use Rattle.scanning.proofs.events.header_event.Goals as goal

pub returns-in-Ok : goal.returns-in-Ok
returns-in-Ok c =
    let a = c.args in
    sym (ap (header_event a.layer a.packet) c.in-Ok.is)

pub returns-in-Err : goal.returns-in-Err
returns-in-Err c =
    let a = c.args in
    sym (ap (header_event a.layer a.packet) c.in-Err.is)
