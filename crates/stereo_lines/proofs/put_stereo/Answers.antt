-- `put_stereo` meets its contract: the outcome says which lines.
-- Assumes nothing.
use mathlib.Core.Path.{sym, ◌∙◌, ap}
use Rattle.es_loop.specs.Answer.{Outcome}
use Rattle.text.proofs.Laws.{laid_as}
use Rattle.stereo_lines.specs.Lines.{read_text, answer_text, stereo_text}
use Rattle.stereo_lines.proofs.put_stereo.Goals as goal

pub returns-in-Ok : goal.returns-in-Ok
unfolding stereo_text
returns-in-Ok c =
    let read = c.read_stereo-read in
    laid_as (sym (ap (λ (o : Outcome). read_text o read.result) c.in-Ok.is) ∙ ap answer_text read.ensures) c.put_set.ensures

pub returns-in-Err : goal.returns-in-Err
unfolding stereo_text
returns-in-Err c =
    let read = c.read_stereo-read in
    laid_as (sym (ap (λ (o : Outcome). read_text o read.result) c.in-Err.is) ∙ ap answer_text read.ensures) c.put_refused.ensures
