-- `thq_write_points` meets its contract: what the writer answers, as one number.
-- Assumes nothing.
use mathlib.Core.Path.{sym, ◌∙◌, ap, ap₂}
use Rattle.c_answers.specs.Answers.{reply}
use Rattle.thoquenry_points_written.specs.Writing.{points_written}
use Rattle.thoquenry_points_written.proofs.thq_write_points.Goals as goal

pub returns-in-Ok : goal.returns-in-Ok
returns-in-Ok c = ap₂ reply (c.accepted.ensures ∙ sym (ap points_written (sym c.write_points-written.ensures.0 ∙ c.in-Ok.is))) c.write_points-written.ensures.1

pub returns-in-Err : goal.returns-in-Err
returns-in-Err c = ap₂ reply (c.refused.ensures ∙ sym (ap points_written (sym c.write_points-written.ensures.0 ∙ c.in-Err.is))) c.write_points-written.ensures.1
