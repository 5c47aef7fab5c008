-- `listing::put_accepted` meets its contract: the first line, and the lines of the layers after it.
-- Assumes nothing.
use mathlib.Core.Path.{ap}
use Rattle.text.specs.Text.{ascii}
use Rattle.text.proofs.Laws.{laid_then, laid_as, laid_length}
use Rattle.listing.specs.Lines.{labelled, set_text}
use Rattle.listing.proofs.put_accepted.Goals as goal

-- LEFT: no goal of today has the name slice-aggregate-put-labelled
-- slice-aggregate-put-labelled : tie.Need-slice-aggregate-put-labelled
-- slice-aggregate-put-labelled c = search rules

-- LEFT: no goal of today has the name slice-aggregate-put
-- slice-aggregate-put : tie.Need-slice-aggregate-put
-- slice-aggregate-put c = search rules

pub returns : goal.returns
unfolding set_text
returns c =
    laid_then
    (laid_then (laid_as (ap (labelled (ascii "accepted ")) c.size.ensures) c.put_labelled-place.ensures) c.put-place.ensures)
    c.put_layers.ensures

pub shape_of-out : goal.shape_of-out
shape_of-out c = laid_length (returns c)
