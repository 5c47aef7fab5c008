-- `work_out_at` meets its contract: by whether there is a layer of the index.
-- Assumes nothing.
use Prim.Native.Nat.{ℕ}
use mathlib.Core.Bool.{Bool, cond}
use mathlib.Core.Path.{sym, ap, ◌∙◌}
use Rattle.kept_closures.specs.Kept.{stored_at, closure_over}
use Rattle.kept_closures.proofs.Columns.work_out_at.Goals as goal

pub returns-then-member : goal.returns-then-member
returns-then-member c =
    let a = c.args in
    c.keep.ensures
    ∙ ap (λ (closure : ℕ). stored_at a.present closure a.index a.self.now) c.closure_over-closure.ensures
    ∙ ap (λ (b : Bool). cond b (stored_at a.present (closure_over a.self.now.closures a.index a.names) a.index a.self.now) a.self.now) (sym (sym c.member.ensures ∙ c.if-member.true))

pub returns-else-member : goal.returns-else-member
returns-else-member c =
    let a = c.args in
    ap (λ (b : Bool). cond b (stored_at a.present (closure_over a.self.now.closures a.index a.names) a.index a.self.now) a.self.now) (sym (sym c.member.ensures ∙ c.if-member.false))
