-- `loop_faults::judge_entry` meets its contract: of a stream that the reading knows its outline is judged, and any other is without a record.
-- Assumes nothing.
use Prim.Native.Nat.{ℕ, ◌<◌}
use mathlib.Core.Path.{sym, ◌∙◌, ap, ap₂, subst}
use mathlib.Core.Bool.{Bool, true}
use mathlib.Core.List.{List}
use native.Mathlib.Omega.{arith}
use lib.ListN.{get_or, set, take, drop}
use Rattle.records.specs.Records.{index_of}
use Rattle.implied.specs.Rule.{given}
use Rattle.loop_entries.specs.declared.Stream.{Stream}
use Rattle.loop_entries.proofs.Front.{pid_below}
use Rattle.loop_outlines.specs.declared.Outline.{Outline}
use Rattle.loop_faults.specs.Conditions.{slot_of, fault_at, stream_in}
use Rattle.loop_faults.specs.Outlined.{fault_on}
use Rattle.loop_faults.proofs.Unknown.{not_given, recordless, unknown_entry}
use Rattle.loop_faults.proofs.judge_entry.Goals as goal

pub read_outline-outline-requires : goal.read_outline-outline-requires
read_outline-outline-requires c = (c.requires, sym c.knows.ensures ∙ c.if-knows.true)

pub mark_next-requires : goal.mark_next-requires
mark_next-requires c =
    let a = c.args in
    let entry : List ℕ = a.entry.now in
    subst (λ (o : Outline). o.pid < 8192) (sym c.read_outline-outline.ensures) (pid_below a.reading (take 5 entry) (drop 5 entry))

pub returns-then-knows : goal.returns-then-knows
returns-then-knows c =
    let a = c.args in
    let pids : List Bool = a.pids.now in
    let indices : List Bool = a.indices.now in
    let stream : Stream = stream_in a.reading a.pair a.entry.now in
    let is-outline = c.read_outline-outline.ensures in
    let gives = c.gives-given in
    let next = c.mark_next in
    let is_given_lem = gives.ensures ∙ ap (λ (o : Outline). given a.pair o.stream_type) is-outline in record {
      value = (
        next.ensures.value.0 ∙ ap₂ (λ (g : Bool) (o : Outline). fault_on g pids indices o) is_given_lem is-outline,
        subst (λ (o : Outline). index_of o.stream_type o.«record» < 256) is-outline next.ensures.value.1,
      );
      pids_after = (
        next.ensures.pids_after.0 ∙ ap (λ (o : Outline). set pids o.pid true) is-outline,
        next.ensures.pids_after.1 ∙ ap (λ (o : Outline). set indices (slot_of o.stream_type o.«record») true) is-outline,
      );
    }

pub mark_recordless-requires : goal.mark_recordless-requires
mark_recordless-requires c = omega (arith, c.elementary_pid-pid.ensures, c.shared_slice_known-4-1.given 2)

pub returns : goal.returns
returns c =
    let a = c.args in
    let entry : List ℕ = a.entry.now in
    let pids : List Bool = a.pids.now in
    let indices : List Bool = a.indices.now in
    let t : ℕ = get_or entry 0 0 in
    let pid = c.elementary_pid-pid in
    let next = c.mark_recordless in
    let unknown = sym c.knows.ensures ∙ c.if-knows.false in
    let same = unknown_entry a.reading a.pair entry (λ i. omega (arith, c.shared_slice_known-4-1.given i)) unknown pid.result pid.ensures in record {
      value = (
        next.ensures.value ∙ ap (λ (g : Bool). fault_at g pids indices (recordless t pid.result)) (sym (not_given a.reading a.pair t unknown))
            ∙ ap (λ (s : Stream). fault_at (given a.pair s.stream_type) pids indices s) same,
        subst (λ (s : Stream). index_of s.stream_type s.seen.«record» < 256) same (omega arith),
      );
      pids_after = (
        next.ensures.pids_after.0 ∙ ap (λ (s : Stream). set pids s.pid true) same,
        next.ensures.pids_after.1 ∙ ap (λ (s : Stream). set indices (slot_of s.stream_type s.seen.«record») true) same,
      );
    }
