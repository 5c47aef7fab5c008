-- `unit_lists::write_heads` meets its contract. The invariant, the units of the heads so far written, and each turn are in Filling. Assumes nothing.
use native.Mathlib.Omega.{arith}
use Rattle.unit_lists.proofs.Filling.{filled_start, filled_more, filled_end, long_numbers, long_lags, long_sizes, unit_rows, room_numbers, room_lags, room_sizes}
use Rattle.unit_lists.proofs.write_heads.Goals as goal

pub loop-unit-init : goal.loop-unit-init
loop-unit-init c = filled_start _ _ _ _ _ _ _ _

pub bounds-indices-head : goal.bounds-indices-head
bounds-indices-head c = c.requires.row c.loop-unit.unit c.loop-unit-test.true

pub offset_bounds-own-layer : goal.offset_bounds-own-layer
offset_bounds-own-layer c =
    let loop = c.loop-unit in
    let inside = c.loop-unit-test.true in
    omega (arith, c.requires.layer loop.unit inside, c.from-layer.ensures)

pub bounds-own-layer : goal.bounds-own-layer
bounds-own-layer c = omega (arith, c.requires.layer c.loop-unit.unit c.loop-unit-test.true, c.from-layer.ensures)

pub offset_bounds-places-head : goal.offset_bounds-places-head
offset_bounds-places-head c =
    let loop = c.loop-unit in
    let inside = c.loop-unit-test.true in
    omega (arith, c.requires.row loop.unit inside, c.requires.noted, c.well_formed)

pub bounds-places-head : goal.bounds-places-head
bounds-places-head c =
    let loop = c.loop-unit in
    let inside = c.loop-unit-test.true in
    omega (arith, c.requires.row loop.unit inside, c.requires.noted)

pub offset_bounds-decodings-head : goal.offset_bounds-decodings-head
offset_bounds-decodings-head c =
    let loop = c.loop-unit in
    let inside = c.loop-unit-test.true in
    omega (arith, c.requires.row loop.unit inside, c.requires.decoded, c.well_formed)

pub bounds-decodings-head : goal.bounds-decodings-head
bounds-decodings-head c =
    let loop = c.loop-unit in
    let inside = c.loop-unit-test.true in
    omega (arith, c.requires.row loop.unit inside, c.requires.decoded)

pub overflow_add-first : goal.overflow_add-first
overflow_add-first c =
    let loop = c.loop-unit in
    let inside = c.loop-unit-test.true in
    omega (arith, c.requires.inside loop.unit inside, (rw c.from-layer.ensures at c.size-size.ensures), c.well_formed)

pub write_unit-requires : goal.write_unit-requires
write_unit-requires c =
    let loop = c.loop-unit in
    let inside = c.loop-unit-test.true in
    let size = (rw c.from-layer.ensures at c.size-size.ensures) in (
      unit_rows _ _ _ _ _ _ _ _ _ _ _ _ _ loop.invariant c.requires inside _ size,
      room_numbers _ _ _ _ _ _ _ _ _ _ _ _ _ loop.invariant c.requires inside _ size,
      room_lags _ _ _ _ _ _ _ _ _ _ _ _ _ loop.invariant c.requires inside _ size,
    )

pub offset_bounds-sizes-unit : goal.offset_bounds-sizes-unit
offset_bounds-sizes-unit c =
    let loop = c.loop-unit in
    let inside = c.loop-unit-test.true in
    omega (arith, c.requires.room_sizes, c.well_formed)

pub bounds-sizes-unit : goal.bounds-sizes-unit
bounds-sizes-unit c =
    let loop = c.loop-unit in
    let inside = c.loop-unit-test.true in
    room_sizes _ _ _ _ _ _ _ _ _ _ _ _ _ loop.invariant c.requires inside _ (rw c.from-layer.ensures at c.size-size.ensures)

pub overflow_add-at : goal.overflow_add-at
overflow_add-at c =
    let loop = c.loop-unit in
    let inside = c.loop-unit-test.true in
    omega (arith, room_numbers _ _ _ _ _ _ _ _ _ _ _ _ _ loop.invariant c.requires inside _ (rw c.from-layer.ensures at c.size-size.ensures), long_numbers _ _ _ _ _ _ _ _ _ _ _ _ _ loop.invariant, c.well_formed)

pub loop-unit-preserved : goal.loop-unit-preserved
loop-unit-preserved c =
    let loop = c.loop-unit in
    let inside = c.loop-unit-test.true in
    filled_more _ _ _ _ _ _ _ _ _ _ _ _ _ loop.invariant c.requires inside _ (rw c.from-layer.ensures at c.size-size.ensures) _ _ c.write_unit.ensures.content
    c.write_unit.ensures.beside

pub shape_of-numbers : goal.shape_of-numbers
shape_of-numbers c = long_numbers _ _ _ _ _ _ _ _ _ _ _ _ _ c.loop-unit.invariant

pub shape_of-lags : goal.shape_of-lags
shape_of-lags c = long_lags _ _ _ _ _ _ _ _ _ _ _ _ _ c.loop-unit.invariant

pub shape_of-sizes : goal.shape_of-sizes
shape_of-sizes c = long_sizes _ _ _ _ _ _ _ _ _ _ _ _ _ c.loop-unit.invariant

pub returns : goal.returns
returns c = filled_end _ _ _ _ _ _ _ _ _ _ _ _ _ c.loop-unit.invariant c.requires c.loop-unit-test.false
