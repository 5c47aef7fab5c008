-- `row_writer::weigh_rows` meets its contract. The invariant is what is known of the entries weighed.
-- Assumes nothing.
use Prim.Native.Nat.{ℕ, ◌<◌}
use mathlib.Core.Path.{◌∙◌, ap, subst}
use mathlib.Core.Bool.{Bool, true}
use mathlib.Core.List.{List}
use native.Mathlib.Omega.{arith}
use lib.ListN.{set, length-take, length-drop}
use Rattle.records.specs.Records.{index_of}
use Rattle.loop_entries.specs.declared.Entry.{Entry}
use Rattle.loop_entries.specs.Entries.{blank_entry}
use Rattle.loop_faults.specs.Conditions.{slot_of}
use Rattle.loop_writer.specs.Verdict.{given_to}
use Rattle.loop_writer.specs.Weighing.{weighed_next}
use Rattle.loop_writer.proofs.Weights.{weighing_start, weighing_next, weighing_end}
use Rattle.entry_rows.specs.Rows.{row_too_wide, row_count, row_at, entry_in, entries_below}
use Rattle.entry_rows.proofs.Judged.{row_part, length_entries}
use Rattle.entry_rows.proofs.Given.{entry_at_lem, row_fine_lem, entry_fine}
use Rattle.row_writer.proofs.weigh_rows.Goals as goal

pub loop-i-init : goal.loop-i-init
loop-i-init c =
    let numbers = c.args.numbers.now in
    rw (c.no_pids-pids.ensures, c.no_indices-indices.ensures, c.nothing_weighed-weighed.ensures) (weighing_start (entries_below numbers (row_count numbers)))

pub weigh_row-weighed-requires : goal.weigh_row-weighed-requires
weigh_row-weighed-requires c =
    let numbers = c.args.numbers.now in
    let loop = c.loop-i in
    let i = loop.i in (
      simp (length-take, length-drop) (omega arith),
      ap row_too_wide (row_part numbers i) ∙ row_fine_lem numbers c.requires.1 i (omega arith),
      loop.invariant.small,
      omega arith,
    )

pub loop-i-preserved : goal.loop-i-preserved
loop-i-preserved c =
    let a = c.args in
    let numbers = a.numbers.now in
    let count : ℕ = row_count numbers in
    let loop = c.loop-i in
    let i = loop.i in
    let part = row_part numbers i in
    let entry : Entry = entry_in (row_at numbers i) in
    let long = length_entries numbers count in
    let next = c.weigh_row-weighed in
    weighing_next (entries_below numbers count) loop.pids loop.indices loop.weighed i loop.invariant (omega arith) blank_entry entry
    (entry_at_lem numbers count i (omega arith)) (entry_fine numbers c.requires.1 i (omega arith))
    (given_to a.pair entry) (ap (λ (pair : Bool). given_to pair entry) c.requires.2)
    (subst (λ (row : List ℕ). index_of (entry_in row).stream_type (entry_in row).«record» < 256) part next.ensures.value.2)
    next.result _ _
    (next.ensures.value.0 ∙ ap (λ (row : List ℕ). weighed_next (given_to a.pair (entry_in row)) loop.pids loop.indices loop.weighed (entry_in row) i) part)
    next.ensures.value.1
    (next.ensures.pids_after.0 ∙ ap (λ (row : List ℕ). set loop.pids (entry_in row).pid true) part)
    (next.ensures.pids_after.1 ∙ ap (λ (row : List ℕ). set loop.indices (slot_of (entry_in row).stream_type (entry_in row).«record») true) part)

pub returns : goal.returns
returns c =
    let numbers = c.args.numbers.now in
    let loop = c.loop-i in
    let long = length_entries numbers (row_count numbers) in
    weighing_end (entries_below numbers (row_count numbers)) loop.pids loop.indices loop.weighed loop.i loop.invariant (omega arith)
