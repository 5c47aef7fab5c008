-- `held_at` meets its contract: by whether there is a layer.
-- Assumes nothing.
use mathlib.Core.Bool.{Bool, ◌&&◌}
use mathlib.Core.Path.{sym, ap, ◌∙◌}
use lib.Dec.{eqb}
use Rattle.layer_set.proofs.changing.held_at.Goals as goal

pub returns-then-member : goal.returns-then-member
returns-then-member c =
    let a = c.args in
    ap (λ (b : Bool). b && eqb a.entry.pid a.pid) (sym (sym c.member.ensures ∙ c.if-member.true))

pub returns : goal.returns
returns c =
    let a = c.args in
    ap (λ (b : Bool). b && eqb a.entry.pid a.pid) (sym (sym c.member.ensures ∙ c.if-member.false))
