-- `descriptors::look_through` meets its contract: what is found, as it is seen.
-- Assumes nothing.
use mathlib.Core.Path.{◌∙◌, ap}
use mathlib.Core.List.{List}
use Rattle.vocabulary.specs.declared.LayerIndex.{LayerIndex}
use Rattle.descriptors.proofs.looking.look_through.Goals as goal

pub returns : goal.returns
returns c =
    let found = c.find_records-found.result in
    ap
    (λ (l : List LayerIndex). record { fits = found.fits; wrong_length = found.wrong_length; second_record = found.second_record; «record» = found.«record»; embedded = l })
    c.layers_before.ensures
    ∙ c.find_records-found.ensures.0
