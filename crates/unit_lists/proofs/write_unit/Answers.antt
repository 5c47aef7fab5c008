-- `unit_lists::write_unit` meets its contract. The invariant, what is left of the unit stored from here on, and each turn are in Laying. Assumes nothing.
use mathlib.Core.Path.{◌∙◌}
use native.Mathlib.Omega.{arith}
use mir.Syntax.{w64}
use mir.ValLaws.{to_z-of_z}
use Rattle.unit_lists.proofs.Laying.{laying_start, laying_more, laid_numbers, laid_lags}
use Rattle.unit_lists.proofs.write_unit.Goals as goal

pub loop-from-init : goal.loop-from-init
loop-from-init c = laying_start _ _ _ _ _ _ _ _ c.requires.0.from_to

pub offset_bounds-decodings-row : goal.offset_bounds-decodings-row
offset_bounds-decodings-row c =
    omega (arith, c.requires.0.row c.loop-from.from c.loop-from.invariant.from_first c.loop-from-test.true, c.well_formed)

pub bounds-decodings-row : goal.bounds-decodings-row
bounds-decodings-row c =
    c.requires.0.row c.loop-from.from c.loop-from.invariant.from_first c.loop-from-test.true

pub loop-from-preserved : goal.loop-from-preserved
loop-from-preserved c =
    let loop = c.loop-from in
    laying_more _ _ _ _ _ _ _ _ loop.from loop.next loop.numbers loop.lags loop.invariant c.loop-from-test.true
    c.requires.0.inside _ (to_z-of_z w64 c.lag.result (record { sfits = c.lag.type_inv }) ∙ c.lag.ensures)

pub shape_of-numbers : goal.shape_of-numbers
shape_of-numbers c = c.loop-from.invariant.long_numbers

pub shape_of-lags : goal.shape_of-lags
shape_of-lags c = c.loop-from.invariant.long_lags

pub returns : goal.returns
returns c =
    let loop = c.loop-from in record {
      content = laid_numbers _ _ _ _ _ _ _ _ loop.from loop.next loop.numbers loop.lags loop.invariant c.loop-from-test.false;
      beside = laid_lags _ _ _ _ _ _ _ _ loop.from loop.next loop.numbers loop.lags loop.invariant c.loop-from-test.false;
    }
