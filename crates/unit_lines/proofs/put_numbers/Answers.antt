-- `unit_lines::put_numbers` meets its contract. The invariant: the numbers so far are laid in after the empty text at the start. The measure is how many are left.
-- Assumes nothing.
use native.Mathlib.Omega.{arith}
use Rattle.unit_lines.specs.Lines.{number_at, numbers_text}
use Rattle.text.proofs.Laws.{laid_first, laid_next, laid_last, laid_within, laid_length}
use Rattle.unit_lines.proofs.put_numbers.Goals as goal

-- LEFT: no goal of today has the name slice-aggregate-put
-- slice-aggregate-put : tie.Need-slice-aggregate-put invariant-loop decreases-loop
-- slice-aggregate-put c = search rules

pub loop-i-init : goal.loop-i-init
loop-i-init c = (omega arith, laid_first (number_at c.args.numbers.now) _ _ _ (laid_within c.put-place.ensures))

pub loop-i-preserved : goal.loop-i-preserved
loop-i-preserved c =
    let at = c.loop-i in
    (omega arith, laid_next (number_at c.args.numbers.now) _ at.invariant.1 c.put_number-place.ensures)

pub returns : goal.returns
unfolding numbers_text
returns c = laid_last (number_at c.args.numbers.now) _ _ c.put-place.ensures c.loop-i.invariant.1 (omega arith)

pub shape_of-out : goal.shape_of-out
shape_of-out c = laid_length (returns c)
