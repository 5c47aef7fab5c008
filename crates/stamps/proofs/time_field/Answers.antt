-- `stamps::time_field` meets its contract: byte by byte the table's number, by arithmetic.
-- Assumes nothing.
use mathlib.Core.Path.{sym}
use Rattle.stamps.proofs.StampLaws.{field_of_time}
use Rattle.stamps.proofs.time_field.Goals as goal

pub returns : goal.returns
returns c =
    sym (field_of_time c.args.prefix c.args.time c.requires.0 c.requires.1)
