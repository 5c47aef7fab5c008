-- `joining::room::most_long` meets its contract. Assumes nothing.
use Prim.Native.Nat.{min}
use mathlib.Core.Path.{◌∙◌, ap}
use Rattle.join_answers.proofs.room.most_long.Goals as goal

pub returns : goal.returns
returns c =
    let a = c.args in
    c.min-5.ensures
    ∙ ap (min a.order) (c.min-4.ensures
    ∙ ap (min a.keys) (c.min-numbers.ensures
    ∙ ap (min a.kept) (c.min-3.ensures
    ∙ ap (min a.places) (c.min-2.ensures
    ∙ ap (min a.heads) (c.min-flags.ensures
    ∙ ap (min a.claimed) c.min.ensures)))))
