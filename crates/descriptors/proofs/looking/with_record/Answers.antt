-- `descriptors::with_record` meets its contract: which arm was taken says whether there was a record before.
-- Assumes nothing.
use mathlib.Core.Path.{◌∙◌, ap, sym}
use Rattle.records.specs.declared.Record.{Record}
use Rattle.descriptors.specs.Finding.{besides_found}
use Rattle.descriptors.proofs.looking.with_record.Goals as goal

pub returns-in-NoRecord : goal.returns-in-NoRecord
returns-in-NoRecord c =
    let a = c.args in
    sym (ap (λ (first : Record). besides_found first a.found a.«record» a.end) c.in-NoRecord.is)
