-- `passes::layers_in` meets its contract. The invariant: the layers among the entries of the rows passed.
-- Assumes nothing.
use Prim.Native.Nat.{ℕ}
use mathlib.Core.Path.{sym, ◌∙◌, ap}
use mathlib.Core.List.{List, map}
use native.Mathlib.Omega.{arith}
use lib.ListN.{length-take, length-drop}
use lib.Seq.{take_all}
use Rattle.loop_entries.specs.declared.Entry.{Entry}
use Rattle.entry_rows.specs.Rows.{row_too_wide, row_count, entry_in, entries_below}
use Rattle.entry_rows.proofs.Judged.{row_part, length_entries}
use Rattle.entry_rows.proofs.Given.{entry_at_lem, row_fine_lem}
use Rattle.stereo_set.specs.Views.{no_views, next_view, layers_after}
use Rattle.stereo_writer.specs.Layout.{view_for}
use Rattle.stereo_writer.proofs.Passed.{passed_next}
use Rattle.stereo_writer.proofs.passes.layers_in.Goals as goal

pub loop-i-init : goal.loop-i-init
loop-i-init c = (omega arith, c.no_views-layers.ensures)

pub entry_in-entry-requires : goal.entry_in-entry-requires
entry_in-entry-requires c =
    let numbers = c.args.numbers.now in
    let i = c.loop-i.i in
    (simp (length-take, length-drop) (omega arith), ap row_too_wide (row_part numbers i) ∙ row_fine_lem numbers c.requires i (omega arith))

pub loop-i-preserved : goal.loop-i-preserved
loop-i-preserved c =
    let a = c.args in
    let numbers = a.numbers.now in
    let count : ℕ = row_count numbers in
    let loop = c.loop-i in
    let long = length_entries numbers count in
    let here = c.entry_in-entry.ensures ∙ ap entry_in (row_part numbers loop.i) ∙ sym (entry_at_lem numbers count loop.i (omega arith)) in (
      omega arith,
      c.next_view-layers.ensures
          ∙ ap (next_view loop.layers) (c.view_for.ensures ∙ ap (view_for a.base a.second) here)
          ∙ passed_next a.base a.second (entries_below numbers count) loop.i (omega arith) loop.layers loop.invariant.1,
    )

pub returns : goal.returns
returns c =
    let a = c.args in
    let numbers = a.numbers.now in
    let loop = c.loop-i in
    let long = length_entries numbers (row_count numbers) in
    loop.invariant.1 ∙ ap (λ (l : List Entry). layers_after no_views (map (view_for a.base a.second) l)) (take_all loop.i (entries_below numbers (row_count numbers)) (omega arith))
