-- `scanning::events::step_event` meets its contract: each case of the step is a case of the definition. Assumes nothing.
use borrow.Author.Rules.{rules}
use Prim.Native.Nat.{◌≤◌}
use mathlib.Core.Path.{sym, ap, subst, ◌∙◌}
use lib.ListN.{length}
use Rattle.combinators.specs.Lists.{part_to_end}
use Rattle.pes_reader.specs.Reading.{read_of}
use Rattle.continuity.specs.declared.Step.{Step}
use Rattle.scanning.specs.Events.{start_in, header_event, step_event}
use Rattle.scanning.proofs.events.step_event.Goals as goal

pub slice_bounds-read-count : goal.slice_bounds-read-count
slice_bounds-read-count c =
    let within : c.in-Starts.at ≤ length c.args.packet.now =
    subst (λ (s : Step). start_in s ≤ length c.args.packet.now) c.in-Starts.is c.requires in
    search rules

pub slice_bounds-read-start : goal.slice_bounds-read-start
slice_bounds-read-start c =
    let within : c.in-Starts.at ≤ length c.args.packet.now =
    subst (λ (s : Step). start_in s ≤ length c.args.packet.now) c.in-Starts.is c.requires in
    search rules

pub returns-in-Faulty : goal.returns-in-Faulty
returns-in-Faulty c =
    let a = c.args in
    sym (ap (step_event a.layer a.number a.packet.now) c.in-Faulty.is)

pub returns-in-Starts : goal.returns-in-Starts
returns-in-Starts c =
    let a = c.args in
    c.header_event.ensures
    ∙ ap (header_event a.layer a.number) (c.read.ensures ∙ ap read_of (part_to_end a.packet.now c.in-Starts.at))
    ∙ sym (ap (step_event a.layer a.number a.packet.now) c.in-Starts.is)
