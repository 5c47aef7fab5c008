-- `find_layers` meets its contract. The invariant: where the walk stands, and that the layers so far, continued over the entries left, are those of all.
-- Assumes nothing.
use Prim.Native.Nat.{◌+◌}
use native.Mathlib.Omega.{arith}
use mathlib.Core.Path.{sym, ◌∙◌, ap}
use Rattle.stereo_set.specs.declared.views.View.{View}
use Rattle.stereo_set.specs.declared.views.Layers.{Layers}
use Rattle.stereo_set.specs.Views.{next_view, layers_after}
use Rattle.stereo_set.specs.Reading.{views_in}
use Rattle.stereo_set.proofs.Walk.{standing_first, views_from, view_at, turn, none_left}
use Rattle.stereo_set.proofs.reader.find_layers.Goals as goal

pub loop-at-init : goal.loop-at-init
loop-at-init c =
    let a = c.args in
    (standing_first a.bytes.now, ap (λ (l : Layers). layers_after l (views_in a.bytes.now)) c.no_views-layers.ensures)

pub slice_bounds-read_view-end : goal.slice_bounds-read_view-end
slice_bounds-read_view-end c =
    let a = c.args in
    let loop = c.loop-at in
    let size = c.entry_size-size in
    let t = turn a.bytes.now c.requires loop.at loop.invariant.0 c.loop-at-test.true size.result size.ensures in
    sym t.whole_long

pub read_view-view-requires : goal.read_view-view-requires
read_view-view-requires c =
    let a = c.args in
    let loop = c.loop-at in
    let size = c.entry_size-size in
    let t = turn a.bytes.now c.requires loop.at loop.invariant.0 c.loop-at-test.true size.result size.ensures in
    rw t.whole_long t.large

pub overflow_add-at : goal.overflow_add-at
overflow_add-at c =
    let a = c.args in
    let loop = c.loop-at in
    let size = c.entry_size-size in
    let t = turn a.bytes.now c.requires loop.at loop.invariant.0 c.loop-at-test.true size.result size.ensures in
    let short = t.short in
    let large = t.large in
    let room = t.room in
    let long = t.long in
    omega arith

pub loop-at-smaller : goal.loop-at-smaller
loop-at-smaller c =
    let a = c.args in
    let loop = c.loop-at in
    let size = c.entry_size-size in
    let t = turn a.bytes.now c.requires loop.at loop.invariant.0 c.loop-at-test.true size.result size.ensures in
    let short = t.short in
    let large = t.large in
    let room = t.room in
    let long = t.long in
    omega arith

pub loop-at-preserved : goal.loop-at-preserved
loop-at-preserved c =
    let a = c.args in
    let loop = c.loop-at in
    let size = c.entry_size-size in
    let t = turn a.bytes.now c.requires loop.at loop.invariant.0 c.loop-at-test.true size.result size.ensures in
    let here : View = view_at a.bytes.now a.pair loop.at size.result in
    let rest = views_from a.bytes.now (loop.at + size.result) in (
      t.next,
      ap (λ (l : Layers). layers_after l rest) (c.next_view-layers.ensures ∙ ap (next_view loop.layers) c.read_view-view.ensures)
          ∙ sym (ap (layers_after loop.layers) t.front)
          ∙ loop.invariant.1,
    )

pub returns : goal.returns
returns c =
    let a = c.args in
    let loop = c.loop-at in
    sym (ap (layers_after loop.layers) (none_left a.bytes.now loop.at c.loop-at-test.false)) ∙ loop.invariant.1
