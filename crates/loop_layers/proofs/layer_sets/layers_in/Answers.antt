-- `loop_layers::layers_in` meets its contract. The invariant: where the walk stands, and that the layers so far, continued over the entries left, are
-- those of all.
-- Assumes nothing.
use Prim.Native.Nat.{ℕ, ◌+◌}
use native.Mathlib.Omega.{arith}
use mathlib.Core.Path.{sym, ◌∙◌, ap, ap₂}
use Rattle.sets.specs.Sets.{added}
use Rattle.descriptors.specs.declared.looking.Named.{Named}
use Rattle.closure.specs.declared.Layers.{Layers}
use Rattle.loop_entries.specs.declared.Entry.{Entry}
use Rattle.loop_entries.specs.declared.Stream.{Stream}
use Rattle.loop_entries.specs.Entries.{entry_of}
use Rattle.loop_faults.specs.Conditions.{slot_of}
use Rattle.loop_layers.specs.Layers.{put_at}
use Rattle.loop_layers.proofs.Walked.{standing_first, left_from, stream_from, type_there, turn, none_left, layers_with, layers_next}
use Rattle.loop_layers.proofs.layer_sets.layers_in.Goals as goal

pub loop-at-init : goal.loop-at-init
loop-at-init c =
    let a = c.args in
    (standing_first a.reading a.bytes.now, ap (λ (l : Layers). layers_with l (left_from a.reading a.bytes.now 0)) c.no_layers-none.ensures)

pub slice_bounds-entry-end : goal.slice_bounds-entry-end
slice_bounds-entry-end c =
    let a = c.args in
    let loop = c.loop-at in
    let size = c.entry_size-size in
    let t = turn a.reading a.bytes.now c.requires loop.at loop.invariant.0 c.loop-at-test.true size.result size.ensures in
    sym t.whole_long

pub read_layer-layer-requires : goal.read_layer-layer-requires
read_layer-layer-requires c =
    let a = c.args in
    let loop = c.loop-at in
    let size = c.entry_size-size in
    let t = turn a.reading a.bytes.now c.requires loop.at loop.invariant.0 c.loop-at-test.true size.result size.ensures in
    rw t.whole_long t.large

pub bounds-entry-0 : goal.bounds-entry-0
bounds-entry-0 c =
    let a = c.args in
    let loop = c.loop-at in
    let size = c.entry_size-size in
    let t = turn a.reading a.bytes.now c.requires loop.at loop.invariant.0 c.loop-at-test.true size.result size.ensures in
    rw t.whole_long (omega (arith, t.large))

pub overflow_add-at : goal.overflow_add-at
overflow_add-at c =
    let a = c.args in
    let loop = c.loop-at in
    let size = c.entry_size-size in
    let t = turn a.reading a.bytes.now c.requires loop.at loop.invariant.0 c.loop-at-test.true size.result size.ensures in
    let short = t.short in
    let large = t.large in
    let room = t.room in
    let long = t.long in
    omega arith

pub loop-at-smaller : goal.loop-at-smaller
loop-at-smaller c =
    let a = c.args in
    let loop = c.loop-at in
    let size = c.entry_size-size in
    let t = turn a.reading a.bytes.now c.requires loop.at loop.invariant.0 c.loop-at-test.true size.result size.ensures in
    let short = t.short in
    let large = t.large in
    let room = t.room in
    let long = t.long in
    omega arith

pub loop-at-preserved : goal.loop-at-preserved
loop-at-preserved c =
    let a = c.args in
    let loop = c.loop-at in
    let size = c.entry_size-size in
    let t = turn a.reading a.bytes.now c.requires loop.at loop.invariant.0 c.loop-at-test.true size.result size.ensures in
    let layer = c.read_layer-layer in
    let before : Layers = record { present = loop.present; embedded = loop.embedded } in
    let stream : Stream = stream_from a.reading a.bytes.now a.pair loop.at size.result in
    let entry : Entry = entry_of stream in
    let type = type_there a.reading a.bytes.now a.pair loop.at size.result (λ i. omega (arith, c.shared_slice_known-in-loop-at-1.given i)) in
    let rest = left_from a.reading a.bytes.now (loop.at + size.result) in
    let more = c.add_layer-present in (
      t.next,
      layers_next before entry rest (left_from a.reading a.bytes.now 0) (sym (ap (layers_with before) t.front) ∙ loop.invariant.1) layer.result.names more.result more.new.embedded
          (ap (λ (n : Named). n.names) layer.ensures)
          (more.ensures.value ∙ ap₂ (λ (t : ℕ) (n : Named). added loop.present (slot_of t n.«record»)) type layer.ensures)
          (more.ensures.embedded_after ∙ ap₂ (λ (t : ℕ) (n : Named). put_at loop.embedded (slot_of t n.«record») layer.result.names) type layer.ensures),
    )

pub returns : goal.returns
returns c =
    let a = c.args in
    let loop = c.loop-at in
    sym (ap (layers_with (record { present = loop.present; embedded = loop.embedded })) (none_left a.reading a.bytes.now loop.at c.loop-at-test.false))
    ∙ loop.invariant.1
