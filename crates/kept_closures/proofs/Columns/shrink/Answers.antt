-- `shrink` meets its contract: by whether the layer rested on the index.
-- Assumes nothing.
use Prim.Native.Nat.{ℕ}
use mathlib.Core.Bool.{Bool, cond}
use mathlib.Core.Path.{ap, sym, ◌∙◌}
use Rattle.kept_closures.specs.Kept.{stored_at, closure_over}
use Rattle.kept_closures.proofs.Columns.shrink.Goals as goal

pub returns-then-member : goal.returns-then-member
returns-then-member c =
    let a = c.args in
    c.keep.ensures
    ∙ ap (λ (closure : ℕ). stored_at a.present closure a.upper a.self.now) c.closure_over-closure.ensures
    ∙ ap (λ (b : Bool). cond b (stored_at a.present (closure_over a.self.now.closures a.upper a.names) a.upper a.self.now) a.self.now) (sym (sym c.member.ensures ∙ c.if-member.true))

pub returns-else-member : goal.returns-else-member
returns-else-member c =
    let a = c.args in
    ap (λ (b : Bool). cond b (stored_at a.present (closure_over a.self.now.closures a.upper a.names) a.upper a.self.now) a.self.now) (sym (sym c.member.ensures ∙ c.if-member.false))
