-- `grow` meets its contract: by whether the layer rests on the index.
-- Assumes nothing.
use mathlib.Core.Bool.{Bool, cond}
use mathlib.Core.Path.{ap, sym, ◌∙◌}
use lib.ListN.{get_or}
use Rattle.sets.specs.Sets.{joined}
use Rattle.kept_closures.specs.Kept.{stored_at}
use Rattle.kept_closures.proofs.Columns.grow.Goals as goal

pub returns-then-member : goal.returns-then-member
returns-then-member c =
    let a = c.args in
    c.keep.ensures ∙ ap (λ (b : Bool). cond b (stored_at a.present (joined (get_or a.self.now.closures a.upper 0) a.own) a.upper a.self.now) a.self.now) (sym (sym c.member.ensures ∙ c.if-member.true))

pub returns-else-member : goal.returns-else-member
returns-else-member c =
    let a = c.args in
    ap (λ (b : Bool). cond b (stored_at a.present (joined (get_or a.self.now.closures a.upper 0) a.own) a.upper a.self.now) a.self.now) (sym (sym c.member.ensures ∙ c.if-member.false))
