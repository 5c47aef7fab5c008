-- `loop_layers::add_layer` meets its contract: past the columns nothing is put, and nothing is added to a set of numbers below 64.
-- Assumes nothing.
use Prim.Native.Nat.{ℕ, ◌≤◌, ◌<◌}
use native.Mathlib.Omega.{arith}
use mathlib.Core.Path.{refl, ◌∙◌, ap}
use borrow.Author.Tests.{lt-ltb, le-ltb}
use lib.ListN.{set}
use Rattle.sets.specs.Sets.{added}
use Rattle.loop_faults.specs.Conditions.{slot_of}
use Rattle.loop_layers.proofs.layer_sets.add_layer.Goals as goal

pub returns-then-index-ge64 : goal.returns-then-index-ge64
returns-then-index-ge64 c =
    let a = c.args in
    let past : 64 ≤ slot_of a.stream_type a.«record» = omega (arith, c.slot_of-index.ensures.0, c.if-index-ge64.true) in rw (le-ltb (slot_of a.stream_type a.«record») 64 past) (record {
      value = refl;
      embedded_after = refl;
    })

pub returns : goal.returns
returns c =
    let a = c.args in
    let slot = c.slot_of-index in
    let inside : slot_of a.stream_type a.«record» < 64 = omega (arith, slot.ensures.0, c.if-index-ge64.false) in record {
      value = c.with.ensures ∙ ap (added a.present) slot.ensures.0;
      embedded_after = rw (lt-ltb (slot_of a.stream_type a.«record») 64 inside) (ap (λ (i : ℕ). set a.embedded.now i a.names) slot.ensures.0);
    }
