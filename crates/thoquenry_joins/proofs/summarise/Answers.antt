-- `summarise` meets its contract: the two numbers and the rows, or the refusal.
-- Assumes nothing.
use mathlib.Core.Path.{sym, ◌∙◌, ap}
use mathlib.Core.List.{[], ◌∷◌}
use lib.ListN.{length-set}
use Rattle.buffers.proofs.Laws.{sets_over}
use Rattle.join_answers.specs.Answer.{Joined}
use Rattle.thoquenry_joins.specs.Joins.{joined_answer, summary_after}
use native.Mathlib.Omega.{arith}
use Rattle.thoquenry_joins.proofs.summarise.Goals as goal

pub bounds-summary-1 : goal.bounds-summary-1
bounds-summary-1 c = simp length-set (omega arith)

pub returns-in-Ok : goal.returns-in-Ok
returns-in-Ok c =
    let a = c.args in record {
      answer = c.accepted.ensures ∙ sym (ap joined_answer c.in-Ok.is);
      content = sets_over (c.in-Ok.found.closure ∷ c.in-Ok.found.units ∷ []) a.summary.now c.requires ∙ sym (ap (λ (j : Joined). summary_after j a.summary.now) c.in-Ok.is);
    }

pub returns-in-Err : goal.returns-in-Err
returns-in-Err c =
    let a = c.args in
    let told = c.in-Err.is in record {
      answer = c.refused.ensures ∙ sym (ap joined_answer told);
      content = sym (ap (λ (j : Joined). summary_after j a.summary.now) told);
    }
