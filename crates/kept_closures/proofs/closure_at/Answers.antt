-- `closure_at` meets its contract: by whether there is a layer of the index.
-- Assumes nothing.
use mathlib.Core.Bool.{Bool, cond}
use mathlib.Core.Path.{sym, ap, ◌∙◌}
use Rattle.kept_closures.specs.Kept.{closure_over}
use Rattle.kept_closures.proofs.closure_at.Goals as goal

pub returns-then-not-member : goal.returns-then-not-member
returns-then-not-member c =
    let a = c.args in
    ap (λ (b : Bool). cond b (closure_over a.closures.now a.index a.names) 0) (sym (sym c.member.ensures ∙ c.if-not-member.true))

pub returns : goal.returns
returns c =
    let a = c.args in
    c.closure_over.ensures
    ∙ ap (λ (b : Bool). cond b (closure_over a.closures.now a.index a.names) 0) (sym (sym c.member.ensures ∙ c.if-not-member.false))
