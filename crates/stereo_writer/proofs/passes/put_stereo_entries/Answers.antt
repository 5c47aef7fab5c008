-- `passes::put_stereo_entries` meets its contract. The invariant: the entries of the rows passed are laid in.
-- Assumes nothing.
use Prim.Native.Nat.{ℕ}
use mathlib.Core.Path.{sym, ◌∙◌, ap}
use native.Mathlib.Omega.{arith}
use lib.ListN.{length-take, length-drop}
use lib.Seq.{take_all}
use Rattle.loop_entries.specs.Entries.{blank_entry}
use Rattle.buffers.proofs.Laws.{laid_nothing, laid_as, laid_length}
use Rattle.buffers.proofs.Pieces.{pieces_next}
use Rattle.loop_writer.specs.Layout.{too_wide}
use Rattle.entry_rows.specs.Rows.{row_too_wide, row_count, entry_in, entries_below}
use Rattle.entry_rows.proofs.Judged.{row_part, length_entries}
use Rattle.entry_rows.proofs.Given.{entry_at_lem, row_fine_lem, entry_fine}
use Rattle.stereo_writer.specs.Layout.{stereo_entry, stereo_bytes}
use Rattle.stereo_writer.proofs.passes.put_stereo_entries.Goals as goal

pub loop-i-init : goal.loop-i-init
loop-i-init c = (omega arith, laid_nothing _ 0 0 (omega arith))

pub entry_in-entry-requires : goal.entry_in-entry-requires
entry_in-entry-requires c =
    let numbers = c.args.numbers.now in
    let i = c.loop-i.i in
    (simp (length-take, length-drop) (omega arith), ap row_too_wide (row_part numbers i) ∙ row_fine_lem numbers c.requires.0 i (omega arith))

pub put_stereo_entry-place-requires : goal.put_stereo_entry-place-requires
put_stereo_entry-place-requires c =
    let numbers = c.args.numbers.now in
    let i = c.loop-i.i in
    (c.requires.1, c.requires.2, ap too_wide (c.entry_in-entry.ensures ∙ ap entry_in (row_part numbers i)) ∙ entry_fine numbers c.requires.0 i (omega arith))

pub loop-i-preserved : goal.loop-i-preserved
loop-i-preserved c =
    let a = c.args in
    let numbers = a.numbers.now in
    let count : ℕ = row_count numbers in
    let loop = c.loop-i in
    let long = length_entries numbers count in
    let here = c.entry_in-entry.ensures ∙ ap entry_in (row_part numbers loop.i) ∙ sym (entry_at_lem numbers count loop.i (omega arith)) in
    (omega arith, pieces_next (entries_below numbers count) (stereo_entry a.base a.second) loop.i blank_entry (omega arith) loop.invariant.1 (laid_as (ap (stereo_entry a.base a.second) here) c.put_stereo_entry-place.ensures))

pub returns : goal.returns
returns c =
    let a = c.args in
    let numbers = a.numbers.now in
    let loop = c.loop-i in
    let long = length_entries numbers (row_count numbers) in
    laid_as (ap (stereo_bytes a.base a.second) (take_all loop.i (entries_below numbers (row_count numbers)) (omega arith))) loop.invariant.1

pub shape_of-out : goal.shape_of-out
shape_of-out c = laid_length (returns c)
