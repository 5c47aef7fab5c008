-- `listing::put_layers` meets its contract. The invariant: the lines of the indices so far are laid in after the empty text at the start.
-- The measure is the number of indices left. Assumes nothing.
use native.Mathlib.Omega.{arith}
use Rattle.text.proofs.Laws.{laid_first, laid_next, laid_last, laid_within, laid_length}
use Rattle.listing.specs.Lines.{set_line, set_lines}
use Rattle.listing.proofs.put_layers.Goals as goal

-- LEFT: no goal of today has the name slice-aggregate-put
-- slice-aggregate-put : tie.Need-slice-aggregate-put invariant-loop decreases-loop
-- slice-aggregate-put c = search rules

pub loop-index-init : goal.loop-index-init
loop-index-init c = (omega arith, laid_first (set_line c.args.kept) _ _ _ (laid_within c.put-place.ensures))

pub loop-index-preserved : goal.loop-index-preserved
loop-index-preserved c = (omega arith, laid_next (set_line c.args.kept) _ c.loop-index.invariant.1 c.put_layer_at-place.ensures)

pub returns : goal.returns
unfolding set_lines
returns c = laid_last (set_line c.args.kept) _ 64 c.put-place.ensures c.loop-index.invariant.1 (omega arith)

pub shape_of-out : goal.shape_of-out
shape_of-out c = laid_length (returns c)
