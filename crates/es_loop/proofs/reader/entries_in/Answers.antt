-- `es_loop::entries_in` meets its contract. The invariant: where the walk stands, and that the array holds the entries so far.
-- Assumes nothing.
use Prim.Native.Nat.{◌≤◌}
use native.Mathlib.Omega.{arith}
use mathlib.Core.Path.{◌∙◌, ap, sym}
use mathlib.Core.List.{List}
use lib.ListN.{length, take, set}
use lib.Seq.{length-take-le, take_all}
use Rattle.combinators.proofs.Padding.{store_map}
use Rattle.loop_entries.specs.declared.Entry.{Entry}
use Rattle.loop_entries.specs.declared.Stream.{Stream}
use Rattle.loop_entries.specs.Entries.{no_stream, blank_entry, streams_of, entry_of, entries_of}
use Rattle.es_loop.proofs.Verdicts.{sound}
use Rattle.loop_entries.proofs.Front.{left_at, left_long}
use Rattle.es_loop.proofs.Walk.{cursor_start, size_5, size_fits, stands_here, inside_here, next_here, counted_all}
use Rattle.es_loop.proofs.reader.entries_in.Goals as goal

pub loop-at-init : goal.loop-at-init
loop-at-init c =
    let a = c.args in
    (cursor_start a.reading a.bytes.now, c.blank_entries-entries.ensures)

pub slice_bounds-read_stream-end : goal.slice_bounds-read_stream-end
slice_bounds-read_stream-end c =
    let a = c.args in
    let bytes = a.bytes.now in
    let loop = c.loop-at in
    let cursor = loop.invariant.0 in
    let more = c.loop-at-test.true in
    let size = c.entry_size-size.result in
    let is-size = c.entry_size-size.ensures in
    let long = left_long a.reading bytes loop.at in
    let accepted = sound a.reading bytes _ a.pair c.requires in
    let short = accepted.short in
    let spaced = cursor.spaced in
    let large : 5 ≤ size = size_5 a.reading bytes loop.count loop.at cursor more size is-size in
    let room : size ≤ length (left_at a.reading bytes loop.at) = size_fits a.reading bytes _ a.pair accepted loop.count loop.at cursor more size is-size in
    sym (length-take-le size (left_at a.reading bytes loop.at) room)

pub read_stream-requires : goal.read_stream-requires
read_stream-requires c =
    let a = c.args in
    let bytes = a.bytes.now in
    let loop = c.loop-at in
    let cursor = loop.invariant.0 in
    let more = c.loop-at-test.true in
    let size = c.entry_size-size.result in
    let is-size = c.entry_size-size.ensures in
    let long = left_long a.reading bytes loop.at in
    let accepted = sound a.reading bytes _ a.pair c.requires in
    let short = accepted.short in
    let spaced = cursor.spaced in
    let large : 5 ≤ size = size_5 a.reading bytes loop.count loop.at cursor more size is-size in
    let room : size ≤ length (left_at a.reading bytes loop.at) = size_fits a.reading bytes _ a.pair accepted loop.count loop.at cursor more size is-size in
    rw (length-take-le size (left_at a.reading bytes loop.at) room) large

pub offset_bounds-entries-count : goal.offset_bounds-entries-count
offset_bounds-entries-count c =
    let a = c.args in
    let bytes = a.bytes.now in
    let loop = c.loop-at in
    let cursor = loop.invariant.0 in
    let more = c.loop-at-test.true in
    let size = c.entry_size-size.result in
    let is-size = c.entry_size-size.ensures in
    let long = left_long a.reading bytes loop.at in
    let accepted = sound a.reading bytes _ a.pair c.requires in
    let short = accepted.short in
    let spaced = cursor.spaced in
    let large : 5 ≤ size = size_5 a.reading bytes loop.count loop.at cursor more size is-size in
    let room : size ≤ length (left_at a.reading bytes loop.at) = size_fits a.reading bytes _ a.pair accepted loop.count loop.at cursor more size is-size in
    omega arith

pub bounds-entries-count : goal.bounds-entries-count
bounds-entries-count c =
    let a = c.args in
    let bytes = a.bytes.now in
    let loop = c.loop-at in
    let cursor = loop.invariant.0 in
    let more = c.loop-at-test.true in
    let size = c.entry_size-size.result in
    let is-size = c.entry_size-size.ensures in
    let long = left_long a.reading bytes loop.at in
    let accepted = sound a.reading bytes _ a.pair c.requires in
    let short = accepted.short in
    let spaced = cursor.spaced in
    let large : 5 ≤ size = size_5 a.reading bytes loop.count loop.at cursor more size is-size in
    let room : size ≤ length (left_at a.reading bytes loop.at) = size_fits a.reading bytes _ a.pair accepted loop.count loop.at cursor more size is-size in
    omega arith

pub overflow_add-count : goal.overflow_add-count
overflow_add-count c =
    let a = c.args in
    let bytes = a.bytes.now in
    let loop = c.loop-at in
    let cursor = loop.invariant.0 in
    let more = c.loop-at-test.true in
    let size = c.entry_size-size.result in
    let is-size = c.entry_size-size.ensures in
    let long = left_long a.reading bytes loop.at in
    let accepted = sound a.reading bytes _ a.pair c.requires in
    let short = accepted.short in
    let spaced = cursor.spaced in
    let large : 5 ≤ size = size_5 a.reading bytes loop.count loop.at cursor more size is-size in
    let room : size ≤ length (left_at a.reading bytes loop.at) = size_fits a.reading bytes _ a.pair accepted loop.count loop.at cursor more size is-size in
    omega arith

pub overflow_add-at : goal.overflow_add-at
overflow_add-at c =
    let a = c.args in
    let bytes = a.bytes.now in
    let loop = c.loop-at in
    let cursor = loop.invariant.0 in
    let more = c.loop-at-test.true in
    let size = c.entry_size-size.result in
    let is-size = c.entry_size-size.ensures in
    let long = left_long a.reading bytes loop.at in
    let accepted = sound a.reading bytes _ a.pair c.requires in
    let short = accepted.short in
    let spaced = cursor.spaced in
    let large : 5 ≤ size = size_5 a.reading bytes loop.count loop.at cursor more size is-size in
    let room : size ≤ length (left_at a.reading bytes loop.at) = size_fits a.reading bytes _ a.pair accepted loop.count loop.at cursor more size is-size in
    omega arith

pub loop-at-smaller : goal.loop-at-smaller
loop-at-smaller c =
    let a = c.args in
    let bytes = a.bytes.now in
    let loop = c.loop-at in
    let cursor = loop.invariant.0 in
    let more = c.loop-at-test.true in
    let size = c.entry_size-size.result in
    let is-size = c.entry_size-size.ensures in
    let long = left_long a.reading bytes loop.at in
    let accepted = sound a.reading bytes _ a.pair c.requires in
    let short = accepted.short in
    let spaced = cursor.spaced in
    let large : 5 ≤ size = size_5 a.reading bytes loop.count loop.at cursor more size is-size in
    let room : size ≤ length (left_at a.reading bytes loop.at) = size_fits a.reading bytes _ a.pair accepted loop.count loop.at cursor more size is-size in
    omega arith

pub loop-at-preserved : goal.loop-at-preserved
loop-at-preserved c =
    let a = c.args in
    let bytes = a.bytes.now in
    let loop = c.loop-at in
    let cursor = loop.invariant.0 in
    let more = c.loop-at-test.true in
    let size = c.entry_size-size.result in
    let is-size = c.entry_size-size.ensures in
    let long = left_long a.reading bytes loop.at in
    let accepted = sound a.reading bytes _ a.pair c.requires in
    let short = accepted.short in
    let spaced = cursor.spaced in
    let large : 5 ≤ size = size_5 a.reading bytes loop.count loop.at cursor more size is-size in
    let room : size ≤ length (left_at a.reading bytes loop.at) = size_fits a.reading bytes _ a.pair accepted loop.count loop.at cursor more size is-size in
    let stream = c.read_stream.result in
    let is-stream = c.read_stream.ensures in
    let all : List Stream = streams_of a.reading bytes in
    let here = stands_here a.reading bytes loop.count loop.at cursor more size is-size room a.pair accepted.paired stream is-stream in (
      next_here a.reading bytes loop.count loop.at cursor more size is-size room a.pair accepted.paired stream is-stream,
      ap (λ (l : List Entry). set l loop.count c.entry_of.result) loop.invariant.1
          ∙ ap (λ (e : Entry). set (entries_of (take loop.count all)) loop.count e) (c.entry_of.ensures ∙ ap entry_of (sym here))
          ∙ store_map 201 blank_entry entry_of all loop.count no_stream (inside_here a.reading bytes loop.count loop.at cursor more size is-size room a.pair accepted.paired stream is-stream) (omega arith),
    )

pub returns : goal.returns
returns c =
    let a = c.args in
    let loop = c.loop-at in
    let all : List Stream = streams_of a.reading a.bytes.now in
    let every = counted_all a.reading a.bytes.now loop.count loop.at loop.invariant.0 c.loop-at-test.false in
    loop.invariant.1 ∙ ap entries_of (take_all loop.count all (omega (arith, every)))
