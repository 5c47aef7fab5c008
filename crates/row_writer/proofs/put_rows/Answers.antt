-- `row_writer::put_rows` meets its contract. The invariant: the entries of the rows passed are laid in.
-- Assumes nothing.
use Prim.Native.Nat.{ℕ}
use mathlib.Core.Path.{◌≡◌, sym, ◌∙◌, ap}
use native.Mathlib.Omega.{arith}
use lib.ListN.{length, length-take, length-drop}
use lib.Seq.{take_all}
use Rattle.loop_entries.specs.declared.Entry.{Entry}
use Rattle.loop_entries.specs.Entries.{blank_entry}
use Rattle.buffers.proofs.Laws.{laid_nothing, laid_as, laid_length}
use Rattle.buffers.proofs.Pieces.{pieces_next}
use Rattle.loop_writer.specs.Layout.{entry_bytes, loop_bytes}
use Rattle.entry_rows.specs.Rows.{row_too_wide, row_count, entry_in, entries_below}
use Rattle.entry_rows.proofs.Judged.{row_part, length_entries}
use Rattle.entry_rows.proofs.Given.{entry_at_lem, row_fine_lem}
use Rattle.row_writer.proofs.Room.{piece_room}
use Rattle.row_writer.proofs.put_rows.Goals as goal

pub loop-i-init : goal.loop-i-init
loop-i-init c = (omega arith, laid_nothing _ 0 0 (omega arith))

pub put_row-place-requires : goal.put_row-place-requires
put_row-place-requires c =
    let numbers = c.args.numbers.now in
    let count : ℕ = row_count numbers in
    let loop = c.loop-i in
    let i = loop.i in
    let laid = loop.invariant.1 in
    let long = length_entries numbers count in
    let here = ap entry_in (row_part numbers i) ∙ sym (entry_at_lem numbers count i (omega arith)) in (
      simp (length-take, length-drop) (omega arith),
      ap row_too_wide (row_part numbers i) ∙ row_fine_lem numbers c.requires.0 i (omega arith),
      omega (arith, laid.place, laid_length laid, ap (λ (e : Entry). length (entry_bytes e)) here, piece_room (entries_below numbers count) blank_entry i (omega arith), c.requires.1),
    )

pub loop-i-preserved : goal.loop-i-preserved
loop-i-preserved c =
    let numbers = c.args.numbers.now in
    let count : ℕ = row_count numbers in
    let loop = c.loop-i in
    let long = length_entries numbers count in
    let here = ap entry_in (row_part numbers loop.i) ∙ sym (entry_at_lem numbers count loop.i (omega arith)) in
    (omega arith, pieces_next (entries_below numbers count) entry_bytes loop.i blank_entry (omega arith) loop.invariant.1 (laid_as (ap entry_bytes here) c.put_row-place.ensures))

pub returns : goal.returns
returns c =
    let numbers = c.args.numbers.now in
    let loop = c.loop-i in
    let all : loop.i ≡ row_count numbers = omega arith in
    let long = length_entries numbers (row_count numbers) in
    laid_as (ap loop_bytes (take_all loop.i (entries_below numbers (row_count numbers)) (omega arith))) loop.invariant.1

pub shape_of-out : goal.shape_of-out
shape_of-out c = laid_length (returns c)
