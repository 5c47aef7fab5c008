-- `put_points` meets its contract: the outcome says which lines.
-- Assumes nothing.
use Rattle.point_listing.proofs.Lines.{told_filled}
use Rattle.point_listing.specs.Listing.{read_text, answer_text, points_text}
use Rattle.text.proofs.Laws.{laid_as}
use Rattle.program_points.specs.declared.PointsRead.{PointsRead}
use Rattle.es_loop.specs.Answer.{Outcome}
use mathlib.Core.Path.{sym, ◌∙◌, ap}
use Rattle.point_listing.proofs.put_points.Goals as goal

pub put_told-requires : goal.put_told-requires
put_told-requires c = told_filled c.args.program.now c.args.bytes.now c.read_points-read.result c.read_points-read.ensures c.in-Ok.is

pub returns-in-Ok : goal.returns-in-Ok
unfolding points_text
returns-in-Ok c =
    let read = c.read_points-read in
    let program = c.args.program.now in
    laid_as (sym (ap (λ (o : Outcome). read_text o read.result.layers program) c.in-Ok.is) ∙ ap (λ (r : PointsRead). answer_text r program) read.ensures) c.put_told.ensures

pub returns-in-Err : goal.returns-in-Err
unfolding points_text
returns-in-Err c =
    let read = c.read_points-read in
    let program = c.args.program.now in
    laid_as (sym (ap (λ (o : Outcome). read_text o read.result.layers program) c.in-Err.is) ∙ ap (λ (r : PointsRead). answer_text r program) read.ensures) c.put_refused.ensures
