-- `summary_of` meets its contract.
-- Assumes nothing.
use mathlib.Core.List.{[], ◌∷◌}
use Rattle.thoquenry_points.proofs.reading.summary_of.Goals as goal

pub returns : goal.returns
returns c = λ i. c.small.ensures i ∷ c.small-2.ensures i ∷ c.small-3.ensures i ∷ c.small-4.ensures i ∷ c.small-5.ensures i ∷ c.small-6.ensures i ∷ []
