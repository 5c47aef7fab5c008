-- `unit_lines::put_lags` meets its contract. The invariant: the lags so far are laid in after the empty text at the start. The measure is how many are left.
-- Assumes nothing.
use mir.Syntax.{w64}
use mir.ValLaws.{to_z-of_z}
use lib.IntN.{ℤ, pos}
use lib.ListN.{get_or}
use mathlib.Core.Path.{ap}
use native.Mathlib.Omega.{arith}
use Rattle.unit_lines.specs.Lines.{lag_text, lag_at, lags_text}
use Rattle.text.proofs.Laws.{laid_first, laid_next, laid_last, laid_within, laid_length, laid_as}
use Rattle.unit_lines.proofs.put_lags.Goals as goal

-- LEFT: no goal of today has the name slice-aggregate-put
-- slice-aggregate-put : tie.Need-slice-aggregate-put invariant-loop decreases-loop
-- slice-aggregate-put c = search rules

pub loop-i-init : goal.loop-i-init
loop-i-init c = (omega arith, laid_first (lag_at c.args.lags.now) _ _ _ (laid_within c.put-place.ensures))

pub loop-i-preserved : goal.loop-i-preserved
loop-i-preserved c =
    let at = c.loop-i in
    let lags = c.args.lags.now in
    let lag : ℤ = get_or lags at.i (pos 0) in
    (omega arith, laid_next (lag_at lags) _ at.invariant.1 (laid_as (ap lag_text (to_z-of_z w64 lag (record { sfits = c.put_lag-arg-in-loop-i-1.given }))) c.put_lag-place.ensures))

pub returns : goal.returns
unfolding lags_text
returns c = laid_last (lag_at c.args.lags.now) _ _ c.put-place.ensures c.loop-i.invariant.1 (omega arith)

pub shape_of-out : goal.shape_of-out
shape_of-out c = laid_length (returns c)
