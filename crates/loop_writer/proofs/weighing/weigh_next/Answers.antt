-- `weigh_next` meets its contract: the entry's size is added, and its outline judged.
-- Assumes nothing.
use Prim.Native.Nat.{ℕ, ◌+◌, ◌<◌}
use mathlib.Core.Path.{◌∙◌, ap, ap₂, subst}
use mathlib.Core.Bool.{true}
use lib.ListN.{set}
use Rattle.records.specs.Records.{index_of}
use Rattle.loop_faults.specs.Conditions.{slot_of, lower_of}
use Rattle.loop_faults.specs.Outlined.{fault_on}
use Rattle.loop_faults.specs.declared.Fault.{Fault}
use Rattle.loop_outlines.specs.declared.Outline.{Outline}
use Rattle.loop_writer.proofs.Entries.{pid_small}
use native.Mathlib.Omega.{arith}
use Rattle.loop_writer.proofs.weighing.weigh_next.Goals as goal

pub mark_next-number-requires : goal.mark_next-number-requires
mark_next-number-requires c =
    let small : c.outline_for.result.pid < 8192 = rw c.outline_for.ensures (pid_small c.args.entry c.requires.0) in
    small

pub returns : goal.returns
returns c =
    let a = c.args in
    let size = c.entry_size in
    let outline = c.outline_for in
    let next = c.mark_next-number in
    let number = next.ensures.value.0 ∙ ap (fault_on a.given a.pids.now a.indices.now) outline.ensures in
    let fault = c.lower.ensures ∙ ap (λ (n : ℕ). lower_of a.so_far.fault n a.place) number in
    let index : index_of a.entry.stream_type a.entry.«record» < 256 =
    subst (λ (o : Outline). index_of o.stream_type o.«record» < 256) outline.ensures next.ensures.value.1 in record {
      value = (ap₂ (λ (n : ℕ) (f : Fault). record { size = a.so_far.size + n; fault = f }) size.ensures.0 fault, omega (arith, size.ensures.1), index);
      pids_after = (next.ensures.pids_after.0 ∙ ap (λ (o : Outline). set a.pids.now o.pid true) outline.ensures, next.ensures.pids_after.1 ∙ ap (λ (o : Outline). set a.indices.now (slot_of o.stream_type o.«record») true) outline.ensures);
    }
