-- `place` meets its contract: past the places nothing is put.
-- Assumes nothing.
use Prim.Native.Nat.{◌≤◌, ◌<◌}
use mathlib.Core.Path.{refl}
use native.Mathlib.Omega.{arith}
use borrow.Author.Tests.{lt-ltb, le-ltb}
use Rattle.loop_entries.specs.declared.Entry.{Entry}
use Rattle.loop_layers.specs.Layers.{place_of}
use Rattle.layer_set.proofs.set.place.Goals as goal

pub returns-then-index-ge64 : goal.returns-then-index-ge64
returns-then-index-ge64 c =
    let e : Entry = c.args.entry in
    let past : 64 ≤ place_of e = omega (arith, c.slot_of-index.ensures.0, c.if-index-ge64.true) in
    rw (le-ltb (place_of e) 64 past) refl

pub returns : goal.returns
returns c =
    let a = c.args in
    let slot = c.slot_of-index in
    let names = c.names-names in
    let inside : place_of a.entry < 64 = omega (arith, slot.ensures.0, c.if-index-ge64.false) in
    rw (c.add_layer-present.ensures.value, c.add_layer-present.ensures.embedded_after, names.ensures, slot.ensures.0, lt-ltb (place_of a.entry) 64 inside) refl
