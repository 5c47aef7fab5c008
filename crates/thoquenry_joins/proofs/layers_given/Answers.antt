-- `layers_given` meets its contract. The invariant: the array holds the sets passed, and empty ones.
-- Assumes nothing.
use Prim.Native.Nat.{min}
use mathlib.Core.Path.{◌≡◌, refl, ◌∙◌, ap}
use lib.ListN.{length, take}
use Rattle.combinators.specs.Padding.{pad_to}
use Rattle.combinators.specs.Lists.{take_within}
use Rattle.thoquenry_joins.proofs.Stored.{store_take}
use native.Mathlib.Omega.{arith}
use Rattle.thoquenry_joins.proofs.layers_given.Goals as goal

pub loop-i-init : goal.loop-i-init
loop-i-init c = (omega arith, refl)

pub loop-i-preserved : goal.loop-i-preserved
loop-i-preserved c =
    let list = c.args.embedded.now in
    let loop = c.loop-i in
    (omega arith, rw loop.invariant.1 (store_take 64 0 list loop.i (omega arith) (omega arith)))

pub returns : goal.returns
returns c =
    let a = c.args in
    let list = a.embedded.now in
    let loop = c.loop-i in
    let all : loop.i ≡ min 64 (length list) = omega arith in
    let held : loop.named ≡ pad_to 64 0 (take 64 list) = loop.invariant.1 ∙ ap (pad_to 64 0) (take_within list 64 loop.i (length list) refl all) in
    rw held
