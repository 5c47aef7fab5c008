-- `put_told` meets its contract: the number of points, and their lines.
-- Assumes nothing.
use Rattle.point_listing.proofs.Lines.{told_text_lem}
use Rattle.program_points.proofs.Filled.{points_in_lem, points_many, all_points, points_short}
use Rattle.text.proofs.Laws.{laid_then, laid_as, laid_length}
use Rattle.point_listing.proofs.put_told.Goals as goal

-- LEFT: no goal of today has the name slice-aggregate-put-labelled
-- slice-aggregate-put-labelled : tie.Need-slice-aggregate-put-labelled
-- slice-aggregate-put-labelled c = search rules

-- LEFT: no goal of today has the name slice-aggregate-put
-- slice-aggregate-put : tie.Need-slice-aggregate-put
-- slice-aggregate-put c = search rules

pub slice_bounds-points-end : goal.slice_bounds-points-end
slice_bounds-points-end c = points_in_lem c.args.program.now (λ i. (c.shared_slice_known-1.given i).fits) c.args.found c.requires

pub slice_bounds-put_lines-end : goal.slice_bounds-put_lines-end
slice_bounds-put_lines-end c = points_many c.args.program.now (λ i. (c.shared_slice_known-1.given i).fits) c.args.found c.requires

pub put_lines-requires : goal.put_lines-requires
put_lines-requires c = (all_points c.args.program.now (λ i. (c.shared_slice_known-1.given i).fits) c.args.found c.requires, points_short c.args.program.now (λ i. (c.shared_slice_known-1.given i).fits) c.args.found c.requires)

pub returns : goal.returns
returns c =
    laid_as (told_text_lem c.args.layers c.args.program.now (λ i. (c.shared_slice_known-1.given i).fits) c.args.found c.requires)
    (laid_then (laid_then c.put_labelled-place.ensures c.put-place.ensures) c.put_lines.ensures)

pub shape_of-out : goal.shape_of-out
shape_of-out c = laid_length (returns c)
