-- `placed_in` meets its contract. The invariant: where the walk stands, and that what is placed so far, continued over the entries left, is that
-- of all.
-- Assumes nothing.
use Prim.Native.Nat.{◌+◌}
use native.Mathlib.Omega.{arith}
use mathlib.Core.Path.{sym, ◌∙◌, ap}
use Rattle.loop_entries.specs.declared.Entry.{Entry}
use Rattle.loop_entries.specs.Entries.{entry_of}
use Rattle.layer_set.specs.declared.«set».Placed.{Placed}
use Rattle.layer_set.specs.Sets.{placed_next}
use Rattle.loop_layers.proofs.Walked.{standing_first, left_from, stream_from, turn, none_left}
use Rattle.layer_set.proofs.Walked.{placed_with, placed_next_lem}
use Rattle.layer_set.proofs.reading.placed_in.Goals as goal

pub loop-at-init : goal.loop-at-init
loop-at-init c =
    let a = c.args in
    (standing_first a.reading a.bytes.now, ap (λ (t : Placed). placed_with t (left_from a.reading a.bytes.now 0)) c.nothing_placed-placed.ensures)

pub slice_bounds-read_stream-end : goal.slice_bounds-read_stream-end
slice_bounds-read_stream-end c =
    let a = c.args in
    let loop = c.loop-at in
    let size = c.entry_size-size in
    let t = turn a.reading a.bytes.now c.requires loop.at loop.invariant.0 c.loop-at-test.true size.result size.ensures in
    sym t.whole_long

pub read_stream-stream-requires : goal.read_stream-stream-requires
read_stream-stream-requires c =
    let a = c.args in
    let loop = c.loop-at in
    let size = c.entry_size-size in
    let t = turn a.reading a.bytes.now c.requires loop.at loop.invariant.0 c.loop-at-test.true size.result size.ensures in
    rw t.whole_long t.large

pub overflow_add-at : goal.overflow_add-at
overflow_add-at c =
    let a = c.args in
    let loop = c.loop-at in
    let size = c.entry_size-size in
    let t = turn a.reading a.bytes.now c.requires loop.at loop.invariant.0 c.loop-at-test.true size.result size.ensures in
    let short = t.short in
    let large = t.large in
    let room = t.room in
    let long = t.long in
    omega arith

pub loop-at-smaller : goal.loop-at-smaller
loop-at-smaller c =
    let a = c.args in
    let loop = c.loop-at in
    let size = c.entry_size-size in
    let t = turn a.reading a.bytes.now c.requires loop.at loop.invariant.0 c.loop-at-test.true size.result size.ensures in
    let short = t.short in
    let large = t.large in
    let room = t.room in
    let long = t.long in
    omega arith

pub loop-at-preserved : goal.loop-at-preserved
loop-at-preserved c =
    let a = c.args in
    let loop = c.loop-at in
    let size = c.entry_size-size in
    let t = turn a.reading a.bytes.now c.requires loop.at loop.invariant.0 c.loop-at-test.true size.result size.ensures in
    let entry : Entry = entry_of (stream_from a.reading a.bytes.now a.pair loop.at size.result) in
    let rest = left_from a.reading a.bytes.now (loop.at + size.result) in (
      t.next,
      placed_next_lem loop.placed c.place-placed.result entry rest (left_from a.reading a.bytes.now 0) (sym (ap (placed_with loop.placed) t.front) ∙ loop.invariant.1)
          (c.place-placed.ensures ∙ ap (placed_next loop.placed) (c.entry_of.ensures ∙ ap entry_of c.read_stream-stream.ensures)),
    )

pub returns : goal.returns
returns c =
    let a = c.args in
    let loop = c.loop-at in
    sym (ap (placed_with loop.placed) (none_left a.reading a.bytes.now loop.at c.loop-at-test.false)) ∙ loop.invariant.1
