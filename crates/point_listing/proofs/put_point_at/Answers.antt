-- `put_point_at` meets its contract: the point and its stream list are those of the place, and the array has room for the list.
-- Assumes nothing.
use Rattle.point_listing.proofs.Lines.{streams_within, streams_there, its_line}
use Rattle.program_points.proofs.Tallying.{parts_of}
use Rattle.text.proofs.Laws.{laid_as}
use mathlib.Core.Path.{sym}
use Rattle.point_listing.proofs.put_point_at.Goals as goal

pub point_at-point-requires : goal.point_at-point-requires
point_at-point-requires c = (parts_of c.args.program.now (λ i. (c.shared_slice_known-1.given i).fits) c.args.place c.requires).at_within

pub slice_bounds-members-end : goal.slice_bounds-members-end
slice_bounds-members-end c = streams_within c.args.layers c.args.program.now c.args.place c.list_at-built.result c.list_at-built.ensures

pub slice_bounds-put_point-end : goal.slice_bounds-put_point-end
slice_bounds-put_point-end c = sym (streams_there c.args.layers c.args.program.now c.args.place c.list_at-built.result c.list_at-built.ensures)

pub returns : goal.returns
returns c =
    let a = c.args in
    laid_as
    (its_line a.layers a.program.now a.place c.list_at-built.result c.list_at-built.ensures a.index c.point_at-point.result c.point_at-point.ensures c.closed-closed.result c.closed-closed.ensures)
    c.put_point.ensures
