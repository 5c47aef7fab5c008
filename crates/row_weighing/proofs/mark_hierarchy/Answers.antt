-- `row_weighing::mark_hierarchy` meets its contract: the marks are read and set at the PID and at the index of the row.
-- Assumes nothing.
use Prim.Native.Nat.{ℕ, ◌<◌}
use mathlib.Core.Path.{sym, ◌∙◌, ap, subst}
use mathlib.Core.Bool.{Bool, true, false}
use mathlib.Core.List.{List}
use native.Mathlib.Omega.{arith}
use lib.ListN.{get_or, set}
use Rattle.combinators.specs.Lists.{first_true}
use Rattle.vocabulary.specs.declared.stream_types.Reading.TheVariants.{Edition2015}
use Rattle.hierarchy.specs.Hierarchy.{hierarchy_descriptor}
use Rattle.records.specs.Records.{index_of}
use Rattle.loop_entries.specs.declared.Entry.{Entry}
use Rattle.loop_outlines.specs.Outlines.{outline_of}
use Rattle.loop_faults.specs.Conditions.{fault_at, slot_of}
use Rattle.loop_faults.specs.Outlined.{tests}
use Rattle.loop_writer.specs.Verdict.{stream_for}
use Rattle.entry_rows.proofs.Laws.{hierarchy_entry}
use Rattle.entry_rows.proofs.Judged.{pid_bound, hierarchy_fine}
use Rattle.entry_rows.proofs.Widths.{row_bounds}
use Rattle.row_weighing.proofs.mark_hierarchy.Goals as goal

pub overflow_cast-pid : goal.overflow_cast-pid
overflow_cast-pid c = omega (arith, (c.shared_slice_known-2-1.given 1).fits)

pub overflow_cast-index : goal.overflow_cast-index
overflow_cast-index c = omega (arith, (c.shared_slice_known-3-1.given 8).fits)

pub bounds-pids-pid : goal.bounds-pids-pid
bounds-pids-pid c = let p = pid_bound _ c.requires.1 in omega arith

pub bounds-indices-index : goal.bounds-indices-index
bounds-indices-index c =
    let row : List ℕ = c.args.row.now in
    let b = row_bounds (hierarchy_descriptor Edition2015) row (hierarchy_fine row c.requires.1 c.requires.2) in
    omega arith

pub hierarchy_number-number-requires : goal.hierarchy_number-number-requires
hierarchy_number-number-requires c = c.requires

pub bounds-pids-pid-2 : goal.bounds-pids-pid-2
bounds-pids-pid-2 c = let p = pid_bound _ c.requires.1 in omega arith

pub bounds-indices-index-2 : goal.bounds-indices-index-2
bounds-indices-index-2 c =
    let row : List ℕ = c.args.row.now in
    let b = row_bounds (hierarchy_descriptor Edition2015) row (hierarchy_fine row c.requires.1 c.requires.2) in
    omega arith

pub returns : goal.returns
returns c =
    let row : List ℕ = c.args.row.now in
    let b = row_bounds (hierarchy_descriptor Edition2015) row (hierarchy_fine row c.requires.1 c.requires.2) in
    let a = c.args in
    let pids : List Bool = a.pids.now in
    let indices : List Bool = a.indices.now in
    let is = hierarchy_entry row c.requires.2 in
    let small : get_or row 8 0 < 256 = omega arith in record {
      value = (
        c.hierarchy_number-number.ensures
            ∙ sym (ap (λ (e : Entry). first_true (tests a.given (get_or pids (get_or row 1 0) false) (get_or indices (get_or row 8 0) false) (outline_of (stream_for e)))) is)
            ∙ ap (λ (e : Entry). fault_at a.given pids indices (stream_for e)) is,
        subst (λ (e : Entry). index_of e.stream_type e.«record» < 256) is small,
      );
      pids_after = (ap (λ (e : Entry). set pids e.pid true) is, ap (λ (e : Entry). set indices (slot_of e.stream_type e.«record») true) is);
    }
