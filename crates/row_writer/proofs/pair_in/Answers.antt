-- `row_writer::pair_in` meets its contract. The invariant is what is known of the entries of the rows passed.
-- Assumes nothing.
use Prim.Native.Nat.{ℕ}
use mathlib.Core.Path.{◌∙◌, ap}
use native.Mathlib.Omega.{arith}
use lib.ListN.{length-take, length-drop}
use Rattle.implied.specs.Walking.{view_next}
use Rattle.loop_entries.specs.declared.Entry.{Entry}
use Rattle.loop_entries.specs.Entries.{shown_of, blank_entry}
use Rattle.loop_writer.specs.Verdict.{stream_for}
use Rattle.loop_writer.proofs.Pairs.{viewed_start, viewed_next, viewed_end}
use Rattle.entry_rows.specs.Rows.{row_too_wide, row_count, row_at, entry_in, entries_below}
use Rattle.entry_rows.proofs.Judged.{row_part, length_entries}
use Rattle.entry_rows.proofs.Given.{entry_at_lem, row_fine_lem}
use Rattle.row_writer.proofs.pair_in.Goals as goal

pub loop-i-init : goal.loop-i-init
loop-i-init c =
    let numbers = c.args.numbers.now in
    rw c.no_views-views.ensures (viewed_start (entries_below numbers (row_count numbers)))

pub view_in-views-requires : goal.view_in-views-requires
view_in-views-requires c =
    let numbers = c.args.numbers.now in
    let i = c.loop-i.i in
    (simp (length-take, length-drop) (omega arith), ap row_too_wide (row_part numbers i) ∙ row_fine_lem numbers c.requires i (omega arith))

pub loop-i-preserved : goal.loop-i-preserved
loop-i-preserved c =
    let numbers = c.args.numbers.now in
    let count : ℕ = row_count numbers in
    let loop = c.loop-i in
    let long = length_entries numbers count in
    let made = ap entry_in (row_part numbers loop.i) in
    viewed_next (entries_below numbers count) loop.views loop.i loop.invariant (omega arith) blank_entry (entry_in (row_at numbers loop.i)) (entry_at_lem numbers count loop.i (omega arith))
    c.view_in-views.result (c.view_in-views.ensures ∙ ap (λ (e : Entry). view_next loop.views (shown_of (stream_for e))) made)

pub returns : goal.returns
returns c =
    let numbers = c.args.numbers.now in
    let loop = c.loop-i in
    let long = length_entries numbers (row_count numbers) in
    c.is_pair.ensures ∙ viewed_end (entries_below numbers (row_count numbers)) loop.views loop.i loop.invariant (omega arith)
