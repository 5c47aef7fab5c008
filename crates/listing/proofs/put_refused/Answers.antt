-- `listing::put_refused` meets its contract: the number, the place and the line's end, one after the other.
-- Assumes nothing.
use mathlib.Core.Path.{ap, ◌∙◌}
use Rattle.text.specs.Text.{ascii}
use Rattle.text.proofs.Laws.{laid_then, laid_as}
use Rattle.listing.specs.Lines.{labelled, refused_text}
use Rattle.listing.proofs.put_refused.Goals as goal

pub returns : goal.returns
unfolding refused_text
returns c =
    laid_then
    (laid_then
    (laid_as (ap (labelled (ascii "refused ")) (c.from.ensures ∙ c.number.ensures)) c.put_labelled-place.ensures)
    (laid_as (ap (labelled (ascii " entry ")) c.place.ensures) c.put_labelled-place-2.ensures))
    c.put.ensures
