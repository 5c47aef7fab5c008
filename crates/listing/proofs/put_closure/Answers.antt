-- `listing::put_closure` meets its contract: which case was matched says which text it has.
-- Assumes nothing.
use mathlib.Core.Path.{ap, sym}
use Rattle.text.proofs.Laws.{laid_as}
use Rattle.listing.specs.Lines.{closure_text}
use Rattle.listing.proofs.put_closure.Goals as goal

-- LEFT: no goal of today has the name slice-aggregate-put
-- slice-aggregate-put : tie.Need-slice-aggregate-put
-- slice-aggregate-put c = search rules

pub returns-in-Ok : goal.returns-in-Ok
returns-in-Ok c = laid_as (sym (ap closure_text c.in-Ok.is)) c.put_members.ensures

pub returns-in-Err : goal.returns-in-Err
returns-in-Err c = laid_as (sym (ap closure_text c.in-Err.is)) c.put.ensures
