-- `recording_rows::row_of` meets its contract: each case of the answer is a case of the definition. Assumes nothing.
use mathlib.Core.Path.{sym, ap}
use Rattle.recording_rows.specs.Again.{row_of}
use Rattle.recording_rows.proofs.row_of.Goals as goal

pub returns-in-Ok : goal.returns-in-Ok
returns-in-Ok c = let a = c.args in sym (ap (row_of a.layer a.packet) c.in-Ok.is)

pub returns-in-Err : goal.returns-in-Err
returns-in-Err c = let a = c.args in sym (ap (row_of a.layer a.packet) c.in-Err.is)
