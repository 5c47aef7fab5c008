-- Tables whose values are not too wide hold them: one, the first of several, and the others.
-- Assumes nothing.
use mathlib.Core.Path.{◌≡◌}
use mathlib.Core.Bool.{false}
use mathlib.Core.List.{List, ◌∷◌}
use borrow.Author.Tests.{not-false}
use Rattle.combinators.specs.Bools.{neither_left, neither_right}
use Rattle.combinators.specs.Lists.{any}
use Rattle.syntax.specs.Table.{Fit, fits}
use Rattle.syntax.specs.Filled.{Filled, values_in, too_wide_in}
use Rattle.syntax.proofs.Laws.{fits_fit}

pub fit_in : (f : Filled) → too_wide_in f ≡ false → Fit f.table (values_in f)
fit_in f e = fits_fit f.table (values_in f) (not-false (fits f.table (values_in f)) e)

module _ (f : Filled) (fs : List Filled) (e : any too_wide_in (f ∷ fs) ≡ false) where
  pub fit_first : Fit f.table (values_in f)
  fit_first = fit_in f (neither_left (too_wide_in f) (any too_wide_in fs) e)

  pub fit_others : any too_wide_in fs ≡ false
  fit_others = neither_right (too_wide_in f) (any too_wide_in fs) e
