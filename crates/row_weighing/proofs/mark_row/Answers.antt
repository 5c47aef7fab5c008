-- `row_weighing::mark_row` meets its contract: which kind of record the row has decides how it is judged.
-- Assumes nothing.
use Prim.Native.Nat.{ℕ, ◌<◌}
use mathlib.Core.Path.{sym, ◌∙◌, ap, ap₂, subst}
use mathlib.Core.Bool.{Bool, true, false}
use mathlib.Core.List.{List}
use native.Mathlib.Omega.{arith}
use lib.ListN.{get_or, set}
use Rattle.records.specs.Records.{index_of}
use Rattle.implied.specs.Rule.{given}
use Rattle.loop_entries.specs.declared.Entry.{Entry}
use Rattle.loop_outlines.specs.declared.Outline.{Outline}
use Rattle.loop_faults.specs.Conditions.{fault_at, slot_of}
use Rattle.loop_faults.specs.Outlined.{fault_on, fault_without}
use Rattle.loop_writer.specs.Verdict.{stream_for, given_to}
use Rattle.loop_writer.proofs.Entries.{pid_small}
use Rattle.entry_rows.specs.Rows.{entry_in}
use Rattle.entry_rows.proofs.Laws.{no_record_entry}
use Rattle.entry_rows.proofs.Judged.{type_bound, pid_bound}
use Rattle.entry_rows.proofs.Fits.{entry_fits}
use Rattle.row_weighing.proofs.Numbers.{entry_type}
use Rattle.row_weighing.proofs.mark_row.Goals as goal

pub overflow_cast-row : goal.overflow_cast-row
overflow_cast-row c = record { fits = type_bound _ c.requires.1 }

pub mark_recordless-requires : goal.mark_recordless-requires
mark_recordless-requires c = pid_bound _ c.requires.1

pub returns-then-kind-eq0 : goal.returns-then-kind-eq0
returns-then-kind-eq0 c =
    let a = c.args in
    let row : List ℕ = a.row.now in
    let pids : List Bool = a.pids.now in
    let indices : List Bool = a.indices.now in
    let next = c.mark_recordless in
    let is = no_record_entry row c.if-kind-eq0.true in record {
      value = (
        next.ensures.value ∙ ap (λ (g : Bool). fault_without g (get_or pids (get_or row 1 0) false)) c.gives-given.ensures ∙ ap (λ (e : Entry). fault_at (given_to a.pair e) pids indices (stream_for e)) is,
        subst (λ (e : Entry). index_of e.stream_type e.«record» < 256) is (omega arith),
      );
      pids_after = (next.ensures.pids_after.0 ∙ ap (λ (e : Entry). set pids e.pid true) is, next.ensures.pids_after.1 ∙ ap (λ (e : Entry). set indices (slot_of e.stream_type e.«record») true) is);
    }

pub mark_hierarchy-requires : goal.mark_hierarchy-requires
mark_hierarchy-requires c = let start = c.before.before.before.before.before.before.before.before in (start.requires.0, start.requires.1, c.if-kind-eq1.true)

pub returns-then-kind-eq1 : goal.returns-then-kind-eq1
returns-then-kind-eq1 c =
    let a = c.args in
    let row : List ℕ = a.row.now in
    let next = c.mark_hierarchy in
    let is_given_lem = c.gives-given.ensures ∙ ap (given a.pair) (sym (entry_type row)) in record {
      value = (next.ensures.value.0 ∙ ap (λ (g : Bool). fault_at g a.pids.now a.indices.now (stream_for (entry_in row))) is_given_lem, next.ensures.value.1);
      pids_after = next.ensures.pids_after;
    }

pub outline_in-outline-requires : goal.outline_in-outline-requires
outline_in-outline-requires c = let start = c.before.before.before.before.before.before in (start.requires.0, start.requires.1, c.if-kind-eq0.false, c.if-kind-eq1.false)

pub mark_next-requires : goal.mark_next-requires
mark_next-requires c =
    let row : List ℕ = c.args.row.now in
    subst (λ (o : Outline). o.pid < 8192) (sym c.outline_in-outline.ensures) (pid_small (entry_in row) (entry_fits row c.requires.1))

pub returns : goal.returns
returns c =
    let a = c.args in
    let row : List ℕ = a.row.now in
    let pids : List Bool = a.pids.now in
    let indices : List Bool = a.indices.now in
    let next = c.mark_next in
    let outline = c.outline_in-outline in
    let is_given_lem = c.gives-given.ensures ∙ ap (given a.pair) (sym (entry_type row)) in record {
      value = (
        next.ensures.value.0 ∙ ap₂ (λ (g : Bool) (o : Outline). fault_on g pids indices o) is_given_lem outline.ensures,
        subst (λ (o : Outline). index_of o.stream_type o.«record» < 256) outline.ensures next.ensures.value.1,
      );
      pids_after = (
        next.ensures.pids_after.0 ∙ ap (λ (o : Outline). set pids o.pid true) outline.ensures,
        next.ensures.pids_after.1 ∙ ap (λ (o : Outline). set indices (slot_of o.stream_type o.«record») true) outline.ensures,
      );
    }
