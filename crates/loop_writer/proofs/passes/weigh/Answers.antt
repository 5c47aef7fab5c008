-- `weigh` meets its contract. The invariant is what is known of the entries weighed.
-- Assumes nothing.
use Prim.Native.Nat.{ℕ}
use mathlib.Core.Path.{◌≡◌, refl, ◌∙◌, ap}
use mathlib.Core.Bool.{Bool}
use mathlib.Core.List.{List, []}
use native.Mathlib.Omega.{arith}
use lib.ListN.{length, take, get_or}
use lib.Seq.{length-take-le}
use Rattle.combinators.specs.Lists.{any_false, get_d_nth}
use Rattle.records.specs.declared.Record.TheVariants.{NoRecord}
use Rattle.loop_entries.specs.declared.Entry.{Entry}
use Rattle.loop_writer.specs.Layout.{too_wide}
use Rattle.loop_writer.specs.Verdict.{given_to}
use Rattle.loop_writer.proofs.Weights.{weighing_start, weighing_next, weighing_end}
use Rattle.loop_writer.proofs.passes.weigh.Goals as goal

-- an array's places past its end, as the code reads them
abbrev pastEnd : Entry
pastEnd = record { stream_type = 0; pid = 0; «record» = NoRecord; embedded = [] }

pub loop-i-init : goal.loop-i-init
loop-i-init c =
    let a = c.args in
    rw (c.no_pids-pids.ensures, c.no_indices-indices.ensures, c.nothing_weighed-weighed.ensures) (weighing_start (take a.count a.entries))

pub weigh_next-weighed-requires : goal.weigh_next-weighed-requires
weigh_next-weighed-requires c =
    let loop = c.loop-i in
    let items : List Entry = take c.args.count c.args.entries in
    let few : length items ≡ c.args.count = length-take-le c.args.count c.args.entries (omega arith) in
    let fine = any_false too_wide c.requires.1 (get_d_nth items loop.i pastEnd (omega arith)) in
    (fine, loop.invariant.small, omega arith)

pub loop-i-preserved : goal.loop-i-preserved
loop-i-preserved c =
    let loop = c.loop-i in
    let items : List Entry = take c.args.count c.args.entries in
    let fine = any_false too_wide c.requires.1 (get_d_nth items loop.i pastEnd (omega arith)) in
    let next = c.weigh_next-weighed in
    let gives = c.gives-given in
    let is_given_lem = gives.ensures ∙ ap (λ (b : Bool). given_to b (get_or items loop.i pastEnd)) c.requires.2 in
    weighing_next items loop.pids loop.indices loop.weighed loop.i loop.invariant (omega arith) pastEnd (get_or items loop.i pastEnd)
    refl fine gives.result is_given_lem next.ensures.value.2 next.result _ _ next.ensures.value.0 next.ensures.value.1 next.ensures.pids_after.0 next.ensures.pids_after.1

pub returns : goal.returns
returns c =
    let loop = c.loop-i in
    weighing_end (take c.args.count c.args.entries) loop.pids loop.indices loop.weighed loop.i loop.invariant (omega arith)
