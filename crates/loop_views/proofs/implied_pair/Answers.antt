-- `loop_views::implied_pair` meets its contract. The invariant: what was kept so far, continued over the entries that are left, comes to the rule over all.
-- Assumes nothing.
use Prim.Native.Nat.{◌≤◌}
use mathlib.Core.Path.{◌∙◌, sym}
use native.Mathlib.Omega.{arith}
use lib.ListN.{length}
use lib.Seq.{length-take-le}
use Rattle.loop_entries.proofs.Front.{left_at, left_long, size_large}
use Rattle.loop_views.proofs.Viewing.{viewed_start, viewed_all, viewed_spoiled, viewed_broken, viewed_next}
use Rattle.loop_views.proofs.implied_pair.Goals as goal

pub loop-at-init : goal.loop-at-init
loop-at-init c =
    let a = c.args in
    rw c.no_views-views.ensures (viewed_start a.reading a.bytes.now)

pub returns-then-left-size : goal.returns-then-left-size
returns-then-left-size c =
    let a = c.args in
    let bytes = a.bytes.now in
    let loop = c.loop-at in
    let known = loop.invariant in
    let more = c.loop-at-test.true in
    let size = c.entry_size-size.result in
    let is-size = c.entry_size-size.ensures in
    let long = left_long a.reading bytes loop.at in
    let large : 5 ≤ size = rw is-size (size_large (left_at a.reading bytes loop.at)) in
    c.is_pair.ensures ∙ viewed_broken a.reading bytes loop.views loop.at known more size is-size c.if-left-size.true

pub slice_bounds-view_in-end : goal.slice_bounds-view_in-end
slice_bounds-view_in-end c =
    let a = c.args in
    let bytes = a.bytes.now in
    let loop = c.loop-at in
    let known = loop.invariant in
    let more = c.loop-at-test.true in
    let size = c.entry_size-size.result in
    let is-size = c.entry_size-size.ensures in
    let long = left_long a.reading bytes loop.at in
    let large : 5 ≤ size = rw is-size (size_large (left_at a.reading bytes loop.at)) in
    let room : size ≤ length (left_at a.reading bytes loop.at) = c.if-left-size.false in
    sym (length-take-le size (left_at a.reading bytes loop.at) room)

pub view_in-views-requires : goal.view_in-views-requires
view_in-views-requires c =
    let a = c.args in
    let bytes = a.bytes.now in
    let loop = c.loop-at in
    let known = loop.invariant in
    let more = c.loop-at-test.true in
    let size = c.entry_size-size.result in
    let is-size = c.entry_size-size.ensures in
    let long = left_long a.reading bytes loop.at in
    let large : 5 ≤ size = rw is-size (size_large (left_at a.reading bytes loop.at)) in
    let room : size ≤ length (left_at a.reading bytes loop.at) = c.if-left-size.false in
    rw (length-take-le size (left_at a.reading bytes loop.at) room) large

pub returns-then-views : goal.returns-then-views
returns-then-views c =
    let a = c.args in
    let bytes = a.bytes.now in
    let loop = c.loop-at in
    let known = loop.invariant in
    let more = c.loop-at-test.true in
    let size = c.entry_size-size.result in
    let is-size = c.entry_size-size.ensures in
    let long = left_long a.reading bytes loop.at in
    let large : 5 ≤ size = rw is-size (size_large (left_at a.reading bytes loop.at)) in
    let room : size ≤ length (left_at a.reading bytes loop.at) = c.if-left-size.false in
    let view = c.view_in-views in
    let next = viewed_next a.reading bytes loop.views loop.at known more size is-size room view.result view.ensures in
    viewed_spoiled a.reading bytes view.result _ next c.if-views.true

pub overflow_add-at : goal.overflow_add-at
overflow_add-at c =
    let a = c.args in
    let bytes = a.bytes.now in
    let loop = c.loop-at in
    let known = loop.invariant in
    let more = c.loop-at-test.true in
    let size = c.entry_size-size.result in
    let is-size = c.entry_size-size.ensures in
    let long = left_long a.reading bytes loop.at in
    let large : 5 ≤ size = rw is-size (size_large (left_at a.reading bytes loop.at)) in
    let room : size ≤ length (left_at a.reading bytes loop.at) = c.if-left-size.false in
    omega arith

pub loop-at-smaller : goal.loop-at-smaller
loop-at-smaller c =
    let a = c.args in
    let bytes = a.bytes.now in
    let loop = c.loop-at in
    let known = loop.invariant in
    let more = c.loop-at-test.true in
    let size = c.entry_size-size.result in
    let is-size = c.entry_size-size.ensures in
    let long = left_long a.reading bytes loop.at in
    let large : 5 ≤ size = rw is-size (size_large (left_at a.reading bytes loop.at)) in
    let room : size ≤ length (left_at a.reading bytes loop.at) = c.if-left-size.false in
    omega arith

pub loop-at-preserved : goal.loop-at-preserved
loop-at-preserved c =
    let a = c.args in
    let bytes = a.bytes.now in
    let loop = c.loop-at in
    let known = loop.invariant in
    let more = c.loop-at-test.true in
    let size = c.entry_size-size.result in
    let is-size = c.entry_size-size.ensures in
    let long = left_long a.reading bytes loop.at in
    let large : 5 ≤ size = rw is-size (size_large (left_at a.reading bytes loop.at)) in
    let room : size ≤ length (left_at a.reading bytes loop.at) = c.if-left-size.false in
    let view = c.view_in-views in
    let next = viewed_next a.reading bytes loop.views loop.at known more size is-size room view.result view.ensures in
    next

pub returns : goal.returns
returns c =
    let a = c.args in
    let loop = c.loop-at in
    c.is_pair-2.ensures ∙ viewed_all a.reading a.bytes.now loop.views loop.at loop.invariant c.loop-at-test.false
