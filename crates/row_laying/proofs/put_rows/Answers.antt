-- `row_laying::put_rows` meets its contract. The invariant: where the walk stands, and that the rows of the entries passed are laid in.
-- Assumes nothing.
use Prim.Native.Nat.{ℕ, ◌+◌}
use native.Mathlib.Omega.{arith}
use mathlib.Core.Path.{◌∙◌, ap, sym, refl}
use mathlib.Core.List.{List}
use lib.ListN.{length, take, drop, length-take, length-drop}
use lib.Seq.{length-take-le}
use Rattle.framing.specs.Pieces.{whole}
use Rattle.loop_entries.specs.declared.Stream.{Stream}
use Rattle.loop_entries.specs.Entries.{stream_of, marked_stream, entry_of}
use Rattle.loop_entries.proofs.Front.{left_at}
use Rattle.es_loop.proofs.Walk.{cursor_start, stands_here, next_here, counted_all}
use Rattle.entry_rows.specs.Rows.{row_of}
use Rattle.row_laying.proofs.Walked.{turn, row_more, rows_long, rows_all}
use Rattle.row_laying.proofs.put_rows.Goals as goal

pub loop-at-init : goal.loop-at-init
loop-at-init c =
    let a = c.args in
    (cursor_start a.reading a.bytes.now, refl, refl)

pub overflow_mul-start : goal.overflow_mul-start
overflow_mul-start c =
    let a = c.args in
    let loop = c.loop-at in
    let size = c.entry_size-size in
    let here = turn a.reading a.pair a.bytes.now a.out.now c.requires.bytes_value c.requires.bytes_in_bounds loop.count loop.at loop.invariant.0 c.loop-at-test.true size.result size.ensures in
    omega (arith, here)

pub overflow_add-end : goal.overflow_add-end
overflow_add-end c =
    let a = c.args in
    let loop = c.loop-at in
    let size = c.entry_size-size in
    let here = turn a.reading a.pair a.bytes.now a.out.now c.requires.bytes_value c.requires.bytes_in_bounds loop.count loop.at loop.invariant.0 c.loop-at-test.true size.result size.ensures in
    omega (arith, here)

pub offset_bounds-out-start : goal.offset_bounds-out-start
offset_bounds-out-start c =
    let a = c.args in
    let loop = c.loop-at in
    let size = c.entry_size-size in
    let here = turn a.reading a.pair a.bytes.now a.out.now c.requires.bytes_value c.requires.bytes_in_bounds loop.count loop.at loop.invariant.0 c.loop-at-test.true size.result size.ensures in
    omega (arith, here)

pub slice_bounds-lay_entry-count : goal.slice_bounds-lay_entry-count
slice_bounds-lay_entry-count c =
    let a = c.args in
    let loop = c.loop-at in
    let size = c.entry_size-size in
    let here = turn a.reading a.pair a.bytes.now a.out.now c.requires.bytes_value c.requires.bytes_in_bounds loop.count loop.at loop.invariant.0 c.loop-at-test.true size.result size.ensures in
    omega (arith, here)

pub slice_bounds-lay_entry-start : goal.slice_bounds-lay_entry-start
slice_bounds-lay_entry-start c =
    let a = c.args in
    let loop = c.loop-at in
    let size = c.entry_size-size in
    let here = turn a.reading a.pair a.bytes.now a.out.now c.requires.bytes_value c.requires.bytes_in_bounds loop.count loop.at loop.invariant.0 c.loop-at-test.true size.result size.ensures in
    omega (arith, here)

pub slice_bounds-lay_entry-end : goal.slice_bounds-lay_entry-end
slice_bounds-lay_entry-end c =
    let a = c.args in
    let loop = c.loop-at in
    let size = c.entry_size-size in
    let here = turn a.reading a.pair a.bytes.now a.out.now c.requires.bytes_value c.requires.bytes_in_bounds loop.count loop.at loop.invariant.0 c.loop-at-test.true size.result size.ensures in
    omega (arith, here)

pub slice_bounds-lay_entry-end-in-loop-at : goal.slice_bounds-lay_entry-end-in-loop-at
slice_bounds-lay_entry-end-in-loop-at c =
    let a = c.args in
    let loop = c.loop-at in
    let size = c.entry_size-size in
    let here = turn a.reading a.pair a.bytes.now a.out.now c.requires.bytes_value c.requires.bytes_in_bounds loop.count loop.at loop.invariant.0 c.loop-at-test.true size.result size.ensures in
    sym (length-take-le size.result (left_at a.reading a.bytes.now loop.at) here.fits)

pub lay_entry-requires : goal.lay_entry-requires
lay_entry-requires c =
    let a = c.args in
    let loop = c.loop-at in
    let size = c.entry_size-size in
    let here = turn a.reading a.pair a.bytes.now a.out.now c.requires.bytes_value c.requires.bytes_in_bounds loop.count loop.at loop.invariant.0 c.loop-at-test.true size.result size.ensures in
    (simp (length-take, length-drop) (omega (arith, here)), rw (length-take-le size.result (left_at a.reading a.bytes.now loop.at) here.fits) here.large)

pub overflow_add-count : goal.overflow_add-count
overflow_add-count c =
    let a = c.args in
    let loop = c.loop-at in
    let size = c.entry_size-size in
    let here = turn a.reading a.pair a.bytes.now a.out.now c.requires.bytes_value c.requires.bytes_in_bounds loop.count loop.at loop.invariant.0 c.loop-at-test.true size.result size.ensures in
    omega (arith, here)

pub overflow_add-at : goal.overflow_add-at
overflow_add-at c =
    let a = c.args in
    let loop = c.loop-at in
    let size = c.entry_size-size in
    let here = turn a.reading a.pair a.bytes.now a.out.now c.requires.bytes_value c.requires.bytes_in_bounds loop.count loop.at loop.invariant.0 c.loop-at-test.true size.result size.ensures in
    omega (arith, here)

pub loop-at-smaller : goal.loop-at-smaller
loop-at-smaller c =
    let a = c.args in
    let loop = c.loop-at in
    let size = c.entry_size-size in
    let here = turn a.reading a.pair a.bytes.now a.out.now c.requires.bytes_value c.requires.bytes_in_bounds loop.count loop.at loop.invariant.0 c.loop-at-test.true size.result size.ensures in
    omega (arith, here)

pub loop-at-preserved : goal.loop-at-preserved
loop-at-preserved c =
    let a = c.args in
    let loop = c.loop-at in
    let size = c.entry_size-size in
    let here = turn a.reading a.pair a.bytes.now a.out.now c.requires.bytes_value c.requires.bytes_in_bounds loop.count loop.at loop.invariant.0 c.loop-at-test.true size.result size.ensures in
    let part : List ℕ = take size.result (left_at a.reading a.bytes.now loop.at) in
    let stream : Stream = marked_stream a.pair (stream_of a.reading (whole (take 5 part) (drop 5 part))) in
    let stands = stands_here a.reading a.bytes.now loop.count loop.at loop.invariant.0 c.loop-at-test.true size.result size.ensures here.fits a.pair here.paired stream refl in
    let is_row = c.lay_entry.ensures ∙ ap (λ (s : Stream). row_of (entry_of s)) (sym stands) in
    let more = row_more a.reading a.pair a.bytes.now a.out.now c.requires.bytes_value c.requires.bytes_in_bounds loop.count loop.out _ here.inside loop.invariant.2 is_row in (
      next_here a.reading a.bytes.now loop.count loop.at loop.invariant.0 c.loop-at-test.true size.result size.ensures here.fits a.pair here.paired stream refl,
      ap length more ∙ rows_long a.reading a.pair a.bytes.now a.out.now c.requires.bytes_value c.requires.bytes_in_bounds (loop.count + 1) (omega (arith, here)),
      more,
    )

pub shape_of-out : goal.shape_of-out
shape_of-out c = c.loop-at.invariant.1

pub returns : goal.returns
returns c =
    let a = c.args in
    let loop = c.loop-at in
    loop.invariant.2
    ∙ rows_all a.reading a.pair a.bytes.now a.out.now c.requires.bytes_value c.requires.bytes_in_bounds loop.count
    (counted_all a.reading a.bytes.now loop.count loop.at loop.invariant.0 c.loop-at-test.false)
