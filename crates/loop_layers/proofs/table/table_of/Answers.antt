-- `loop_layers::table_of` meets its contract. The invariant: the table so far, continued over the entries left of those that count, is that of all.
-- Assumes nothing.
use Prim.Native.Nat.{ℕ}
use mathlib.Core.Path.{◌≡◌, sym, ◌∙◌, ap}
use mathlib.Core.List.{List, []}
use native.Mathlib.Omega.{arith}
use lib.ListN.{length, take, drop, drop_of_length-le}
use Rattle.loop_entries.specs.declared.Entry.{Entry}
use Rattle.records.specs.declared.Record.TheVariants.{NoRecord}
use Rattle.loop_layers.specs.declared.table.LayerTable.{LayerTable}
use Rattle.loop_layers.specs.Layers.{table_of}
use Rattle.loop_layers.proofs.Walked.{table_with}
use Rattle.loop_layers.proofs.Pass.{pass_next, counted}
use Rattle.loop_layers.proofs.table.table_of.Goals as goal

-- what the prover takes to stand past the end of an array of entries
abbrev pastTheEnd : Entry
pastTheEnd = record { stream_type = 0; pid = 0; «record» = NoRecord; embedded = [] }

pub loop-entry-init : goal.loop-entry-init
loop-entry-init c = ap (λ (t : LayerTable). table_with t (take c.entry_count-end.result c.args.entries)) c.no_table-table.ensures

pub loop-entry-preserved : goal.loop-entry-preserved
loop-entry-preserved c =
    let items : List Entry = take c.entry_count-end.result c.args.entries in
    let at = c.loop-entry in
    pass_next items at.entry-index (omega arith) pastTheEnd at.table c.with_entry-table.result at.invariant c.with_entry-table.ensures

pub returns : goal.returns
returns c =
    let a = c.args in
    let room : length a.entries ≡ 201 = omega arith in
    let at = c.loop-entry in
    let end : ℕ = c.entry_count-end.result in
    let done : drop at.entry-index (take end a.entries) ≡ [] = drop_of_length-le (take end a.entries) (omega arith) in
    sym (ap (table_with at.table) done) ∙ at.invariant ∙ ap table_of (counted a.entries a.count end room c.entry_count-end.ensures)
