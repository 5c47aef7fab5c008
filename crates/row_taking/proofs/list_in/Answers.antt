-- `row_taking::list_in` meets its contract. The invariant: the array holds the layers passed, and blanks.
-- Assumes nothing.
use Prim.Native.Nat.{◌<◌}
use mathlib.Core.Path.{◌≡◌}
use lib.ListN.{get_or}
use Rattle.combinators.specs.Lists.{any_none}
use Rattle.combinators.proofs.Padding.{store_map}
use Rattle.extension.specs.Extension.{no_layer}
use Rattle.entry_rows.specs.Rows.{layer_of, layer_too_wide}
use Rattle.entry_rows.proofs.Widths.{layer_bound}
use native.Mathlib.Omega.{arith}
use Rattle.row_taking.proofs.list_in.Goals as goal

pub loop-i-init : goal.loop-i-init
loop-i-init c = (omega arith, c.no_layers-layers.ensures)

pub overflow_cast-layers : goal.overflow_cast-layers
overflow_cast-layers c =
    let a = c.args in
    let i = c.loop-i.i in
    let small : get_or a.list.now i 0 < 64 =
    layer_bound _ (any_none a.list.now 0 layer_too_wide a.count i (omega arith) (omega arith) c.requires.2) in
    let byte : get_or a.list.now i 0 < 256 = omega arith in
    record { fits = byte }

pub loop-i-preserved : goal.loop-i-preserved
loop-i-preserved c =
    let a = c.args in
    let loop = c.loop-i in
    (omega arith, rw loop.invariant.1 (store_map 63 no_layer layer_of a.list.now loop.i 0 (omega arith) (omega arith)))

pub returns : goal.returns
returns c =
    let a = c.args in
    let loop = c.loop-i in
    let all : loop.i ≡ a.count = omega arith in
    rw (← all) loop.invariant.1
