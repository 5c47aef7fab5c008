-- `row_taking::view_in` meets its contract: a row's first number is its type, and its third says whether it has a hierarchy descriptor.
-- Assumes nothing.
use mathlib.Core.Path.{◌∙◌, ap}
use Rattle.implied.specs.Rule.{Shown}
use Rattle.implied.specs.Walking.{view_next}
use Rattle.entry_rows.proofs.Judged.{type_bound}
use Rattle.row_taking.proofs.Views.{row_shown}
use Rattle.row_taking.proofs.view_in.Goals as goal

pub overflow_cast-row : goal.overflow_cast-row
overflow_cast-row c = record { fits = type_bound _ c.requires.1 }

pub returns : goal.returns
returns c =
    let a = c.args in
    c.view_next.ensures ∙ ap (λ (s : Shown). view_next a.views s) (row_shown a.row.now)
