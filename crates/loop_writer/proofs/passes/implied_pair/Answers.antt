-- `implied_pair` meets its contract. The invariant: what was kept so far, continued over the entries that are left, comes to the rule over all.
-- Assumes nothing.
use mathlib.Core.Path.{refl, ◌∙◌}
use mathlib.Core.List.{List, []}
use native.Mathlib.Omega.{arith}
use lib.ListN.{take, get_or}
use Rattle.records.specs.declared.Record.TheVariants.{NoRecord}
use Rattle.loop_entries.specs.declared.Entry.{Entry}
use Rattle.loop_writer.proofs.Pairs.{viewed_start, viewed_next, viewed_end}
use Rattle.loop_writer.proofs.passes.implied_pair.Goals as goal

-- an array's places past its end, as the code reads them
abbrev pastEnd : Entry
pastEnd = record { stream_type = 0; pid = 0; «record» = NoRecord; embedded = [] }

pub loop-entry-init : goal.loop-entry-init
loop-entry-init c =
    let a = c.args in
    rw c.no_views-views.ensures (viewed_start (take a.count a.entries))

pub loop-entry-preserved : goal.loop-entry-preserved
loop-entry-preserved c =
    let loop = c.loop-entry in
    let items : List Entry = take c.args.count c.args.entries in
    viewed_next items loop.views loop.entry-index loop.invariant (omega arith) pastEnd (get_or items loop.entry-index pastEnd) refl c.view_of-views.result c.view_of-views.ensures

pub returns : goal.returns
returns c =
    let loop = c.loop-entry in
    c.is_pair.ensures ∙ viewed_end (take c.args.count c.args.entries) loop.views loop.entry-index loop.invariant (omega arith)
