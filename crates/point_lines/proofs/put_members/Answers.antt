-- `put_members` meets its contract. The invariant: the members so far are laid in after the empty text at the start.
-- Assumes nothing.
use Rattle.point_lines.specs.Lines.{member_text, members_text}
use Rattle.listing.specs.Lines.{labelled}
use Rattle.text.proofs.Laws.{laid_first, laid_next, laid_last, laid_within, laid_length, laid_as}
use Rattle.text.specs.Text.{ascii}
use mathlib.Core.Path.{ap}
use native.Mathlib.Omega.{arith}
use Rattle.point_lines.proofs.put_members.Goals as goal

pub loop-stream-init : goal.loop-stream-init
loop-stream-init c = (omega arith, laid_first (member_text c.args.streams.now) _ _ _ (laid_within c.put-place.ensures))

pub loop-stream-preserved : goal.loop-stream-preserved
loop-stream-preserved c = (omega arith, laid_next (member_text c.args.streams.now) _ c.loop-stream.invariant.1 (laid_as (ap (labelled (ascii " ")) c.from.ensures) c.put_labelled-place.ensures))

pub returns : goal.returns
unfolding members_text
returns c = laid_last (member_text c.args.streams.now) _ _ c.put-place.ensures c.loop-stream.invariant.1 (omega arith)

pub shape_of-out : goal.shape_of-out
shape_of-out c = laid_length (returns c)
