-- `some_too_wide` meets its contract. The invariant: none of the entries passed has a value that is too wide.
-- Assumes nothing.
use mathlib.Core.Bool.{◌||◌}
use mathlib.Core.List.{List}
use mathlib.Core.Path.{refl, sym, ◌∙◌, ap, ap₂}
use native.Mathlib.Omega.{arith}
use lib.ListN.{take}
use lib.Seq.{take_all}
use Rattle.combinators.specs.Lists.{any, any_next, any_true, get_d_nth}
use Rattle.loop_entries.specs.declared.Entry.{Entry}
use Rattle.loop_writer.specs.Layout.{too_wide}
use Rattle.loop_writer.proofs.passes.some_too_wide.Goals as goal

pub loop-entry-init : goal.loop-entry-init
loop-entry-init c = (omega arith, refl)

pub returns-then-too_wide : goal.returns-then-too_wide
returns-then-too_wide c =
    let items : List Entry = take c.args.count c.args.entries in
    sym (any_true too_wide (get_d_nth items c.loop-entry.entry-index _ (omega arith)) (sym c.too_wide.ensures ∙ c.if-too_wide.true))

pub loop-entry-preserved : goal.loop-entry-preserved
loop-entry-preserved c =
    let items : List Entry = take c.args.count c.args.entries in
    let loop = c.loop-entry in
    (omega arith, any_next items _ too_wide loop.entry-index (omega arith) ∙ ap₂ ◌||◌ loop.invariant.1 (sym c.too_wide.ensures ∙ c.if-too_wide.false))

pub returns : goal.returns
returns c =
    let items : List Entry = take c.args.count c.args.entries in
    let loop = c.loop-entry in
    sym (ap (any too_wide) (sym (take_all loop.entry-index items (omega arith))) ∙ loop.invariant.1)
