-- `put_lines` meets its contract. The invariant: the lines of the points so far are laid in after the empty text at the start. The measure is the number of points left.
-- Assumes nothing.
use Rattle.point_listing.proofs.Lines.{no_line, line_laid, every_line}
use Rattle.text.proofs.Laws.{laid_then, laid_as, laid_within, laid_length}
use native.Mathlib.Omega.{arith}
use Rattle.point_listing.proofs.put_lines.Goals as goal

pub loop-index-init : goal.loop-index-init
loop-index-init c = (omega arith, no_line c.args.layers c.args.program.now c.args.places.now _ _ (laid_within c.put-place.ensures))

pub put_point_at-place-requires : goal.put_point_at-place-requires
put_point_at-place-requires c = c.requires.0 c.loop-index.index c.loop-index-test.true

pub loop-index-preserved : goal.loop-index-preserved
loop-index-preserved c = (omega (arith, c.loop-index-test.true), line_laid c.args.layers c.args.program.now c.args.places.now c.loop-index.index c.loop-index-test.true c.loop-index.invariant.1 c.put_point_at-place.ensures)

pub returns : goal.returns
returns c = laid_then c.put-place.ensures (laid_as (every_line c.args.layers c.args.program.now c.args.places.now c.loop-index.index (omega (arith, c.loop-index-test.false))) c.loop-index.invariant.1)

pub shape_of-out : goal.shape_of-out
shape_of-out c = laid_length (returns c)
