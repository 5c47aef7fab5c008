-- `row_laying::lay_entry` meets its contract: the branch says whether the reading knows the stream type, and nothing is seen of a stream of any other.
-- Assumes nothing.
use Prim.Native.Nat.{ℕ, ◌+◌, ◌*◌, ◌%◌}
use mathlib.Core.Path.{sym, ◌∙◌, ap, ap₂}
use mathlib.Core.Bool.{Bool, cond}
use mathlib.Core.List.{List}
use native.Mathlib.Omega.{arith}
use lib.ListN.{get_or, drop}
use Rattle.combinators.specs.Lists.{part_to_end}
use Rattle.descriptors.specs.Looking.{seen_of, nothing_seen}
use Rattle.loop_entries.specs.declared.Stream.{Stream}
use Rattle.loop_entries.specs.Entries.{marked_stream, entry_of}
use Rattle.loop_entries.proofs.Heads.{stream_bytes}
use Rattle.loop_faults.proofs.Unknown.{unknown_entry}
use Rattle.entry_rows.specs.Rows.{row_of}
use Rattle.row_laying.proofs.Tails.{row_with}
use Rattle.row_laying.proofs.lay_entry.Goals as goal

pub returns-then-knows : goal.returns-then-knows
returns-then-knows c =
    let a = c.args in
    let entry : List ℕ = a.entry.now in
    let t : ℕ = get_or entry 0 0 in
    let pid = c.elementary_pid-pid in
    let knows = sym c.knows.ensures ∙ c.if-knows.true in
    c.lay_known.ensures
    ∙ ap₂ (λ (info : List ℕ) (n : ℕ). row_with a.pair t n (seen_of a.reading info)) (part_to_end entry 5) pid.ensures
    ∙ ap (λ (b : Bool). row_with a.pair t (get_or entry 1 0 % 32 * 256 + get_or entry 2 0) (cond b (seen_of a.reading (drop 5 entry)) nothing_seen)) (sym knows)
    ∙ ap (λ (s : Stream). row_of (entry_of (marked_stream a.pair s)))
    (stream_bytes a.reading entry (λ i. omega (arith, c.shared_slice_known-4-1.given i)))

pub returns : goal.returns
returns c =
    let a = c.args in
    let entry : List ℕ = a.entry.now in
    let pid = c.elementary_pid-pid in
    let unknown = sym c.knows.ensures ∙ c.if-knows.false in
    c.lay_recordless.ensures
    ∙ ap (λ (s : Stream). row_of (entry_of s))
    (unknown_entry a.reading a.pair entry (λ i. omega (arith, c.shared_slice_known-4-1.given i)) unknown pid.result pid.ensures)
