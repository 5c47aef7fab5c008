-- `tally_points` meets its contract.
-- Assumes nothing.
use Rattle.program_points.proofs.Tallying.{Tallying, tallying_start, tallying_small, tallying_on, tallying_end}
use mathlib.Core.Path.{sym, subst}
use native.Mathlib.Omega.{arith}
use Rattle.program_points.specs.declared.Tally.{Tally}
use Rattle.program_points.proofs.tally_points.Goals as goal

pub loop-place-init : goal.loop-place-init
loop-place-init c =
    let a = c.args in
    subst (λ (t : Tally). Tallying a.layers a.program.now a.places.now t 0) (sym c.no_tally-tally.ensures) (tallying_start a.layers a.program.now a.places.now)

pub tally_with-tally-requires : goal.tally_with-tally-requires
tally_with-tally-requires c =
    let a = c.args in
    let at = c.loop-place in
    (c.requires.0 at.place-index c.loop-place-test.true, tallying_small a.layers a.program.now a.places.now at.tally at.place-index at.invariant c.requires.1)

pub loop-place-preserved : goal.loop-place-preserved
loop-place-preserved c =
    let a = c.args in
    let at = c.loop-place in
    tallying_on a.layers a.program.now a.places.now at.tally at.place-index at.invariant c.loop-place-test.true c.tally_with-tally.ensures.0 c.tally_with-tally.ensures.1

pub returns : goal.returns
returns c =
    let a = c.args in
    let at = c.loop-place in
    tallying_end a.layers a.program.now a.places.now at.tally at.place-index at.invariant (omega (arith, c.loop-place-test.false))
