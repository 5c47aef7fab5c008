-- `lay_changed` meets its contract: by the outcome.
-- Assumes nothing.
use Prim.Native.Nat.{ℕ}
use mathlib.Core.Path.{sym, ap, ◌∙◌}
use Rattle.es_loop.specs.Answer.{Outcome}
use Rattle.thoquenry_sets.specs.Calls.{set_reply, changed_laid}
use Rattle.thoquenry_sets.proofs.lay_changed.Goals as goal

pub returns-in-Ok : goal.returns-in-Ok
returns-in-Ok c =
    let a = c.args in
    c.lay_set.ensures ∙ ap (λ (o : Outcome). changed_laid o a.changed.«set» a.layers.now a.stored.now) (sym c.in-Ok.is)

pub returns-in-Err : goal.returns-in-Err
returns-in-Err c =
    let a = c.args in
    ap (λ (n : ℕ). set_reply n a.layers.now a.stored.now) c.refused.ensures
    ∙ ap (λ (o : Outcome). changed_laid o a.changed.«set» a.layers.now a.stored.now) (sym c.in-Err.is)
