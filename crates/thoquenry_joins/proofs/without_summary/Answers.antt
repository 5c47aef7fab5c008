-- `without_summary` meets its contract: the arm that was taken says what joining answered.
-- Assumes nothing.
use mathlib.Core.Path.{sym, ◌∙◌, ap}
use Rattle.join_answers.specs.Answer.{Joined}
use Rattle.thoquenry_joins.specs.Joins.{with_summary, joined_answer}
use Rattle.thoquenry_joins.proofs.without_summary.Goals as goal

pub returns-in-Err : goal.returns-in-Err
returns-in-Err c = c.refused-in-Err.ensures ∙ sym (ap (λ (j : Joined). joined_answer (with_summary 0 j)) c.in-Err.is)
