-- `put_loop` meets its contract: what reading answered says which of the two texts it is.
-- Assumes nothing.
use Rattle.text.proofs.Laws.{laid_as}
use Rattle.listing.proofs.FromSet.{accepted_text_lem, refused_text_lem}
use Rattle.listing.proofs.put_loop.Goals as goal

pub returns-in-Ok : goal.returns-in-Ok
returns-in-Ok c =
    let a = c.args in
    let read = c.read_set-read in
    laid_as (accepted_text_lem a.reading a.bytes.now read.result read.ensures c.in-Ok.is) c.put_accepted.ensures

pub returns-in-Err : goal.returns-in-Err
returns-in-Err c =
    let a = c.args in
    let read = c.read_set-read in
    laid_as (refused_text_lem a.reading a.bytes.now read.result read.ensures c.in-Err.refusal c.in-Err.is) c.put_refused.ensures
