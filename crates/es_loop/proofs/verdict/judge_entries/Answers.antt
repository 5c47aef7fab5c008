-- `es_loop::judge_entries` meets its contract. The invariant: where the walk stands, and what the judging pass knows of the entries so far. Each turn is
-- one step of both, and the ways out are `does_not_fit`, `end_refused` and `end_accepted`.
-- Assumes nothing.
use Rattle.std.specs.Prelude.{Err}
use Prim.Native.Nat.{ℕ, ◌≤◌, ◌<◌}
use native.Mathlib.Omega.{arith}
use mathlib.Core.Path.{◌≡◌, refl, ◌∙◌, ap, sym}
use mathlib.Core.Logic.{◌≢◌}
use mathlib.Core.Bool.{Bool}
use mathlib.Core.List.{List}
use lib.ListN.{length, take}
use lib.Seq.{length-take-le}
use Rattle.vocabulary.specs.declared.refusal.Refusal.{Refusal}
use Rattle.loop_entries.specs.declared.Stream.{Stream}
use Rattle.records.specs.Records.{index_of}
use Rattle.implied.specs.Rule.{given}
use Rattle.loop_faults.specs.Conditions.{fault_at, lower_of, stream_in}
use Rattle.loop_entries.specs.Entries.{streams_of}
use Rattle.loop_faults.proofs.Passing.{passed_start, passed_next, stays_above, two_unfit, no_two_fits}
use Rattle.loop_entries.proofs.Front.{left_at, left_long}
use Rattle.es_loop.proofs.Walk.{cursor_start, size_5, no_entry, stands_here, given_here, inside_here, pid_here, next_here, does_not_fit, end_refused, end_accepted}
use Rattle.es_loop.proofs.verdict.judge_entries.Goals as goal

pub loop-at-init : goal.loop-at-init
loop-at-init c =
    let a = c.args in
    rw (c.no_pids-pids.ensures, c.no_indices-indices.ensures, c.no_fault-fault.ensures)
    (cursor_start a.reading a.bytes.now, passed_start (streams_of a.reading a.bytes.now), omega arith)

pub returns-then-left-size : goal.returns-then-left-size
returns-then-left-size c =
    let a = c.args in
    let bytes = a.bytes.now in
    let loop = c.loop-at in
    let cursor = loop.invariant.0 in
    let more = c.loop-at-test.true in
    let size = c.entry_size-size.result in
    let is-size = c.entry_size-size.ensures in
    let long = left_long a.reading bytes loop.at in
    let large : 5 ≤ size = size_5 a.reading bytes loop.count loop.at cursor more size is-size in
    let unfit = no_entry a.reading bytes loop.count loop.at cursor more size is-size c.if-left-size.true in
    does_not_fit (streams_of a.reading bytes) loop.fault.number loop.fault.place loop.count unfit.0 unfit.1 loop.invariant.2
    loop.invariant.1.lowest

pub slice_bounds-judge_entry-end : goal.slice_bounds-judge_entry-end
slice_bounds-judge_entry-end c =
    let a = c.args in
    let bytes = a.bytes.now in
    let loop = c.loop-at in
    let cursor = loop.invariant.0 in
    let more = c.loop-at-test.true in
    let size = c.entry_size-size.result in
    let is-size = c.entry_size-size.ensures in
    let long = left_long a.reading bytes loop.at in
    let large : 5 ≤ size = size_5 a.reading bytes loop.count loop.at cursor more size is-size in
    let room : size ≤ length (left_at a.reading bytes loop.at) = c.if-left-size.false in
    sym (length-take-le size (left_at a.reading bytes loop.at) room)

pub judge_entry-number-requires : goal.judge_entry-number-requires
judge_entry-number-requires c =
    let a = c.args in
    let bytes = a.bytes.now in
    let loop = c.loop-at in
    let cursor = loop.invariant.0 in
    let more = c.loop-at-test.true in
    let size = c.entry_size-size.result in
    let is-size = c.entry_size-size.ensures in
    let long = left_long a.reading bytes loop.at in
    let large : 5 ≤ size = size_5 a.reading bytes loop.count loop.at cursor more size is-size in
    let room : size ≤ length (left_at a.reading bytes loop.at) = c.if-left-size.false in
    rw (length-take-le size (left_at a.reading bytes loop.at) room) large

pub returns-then-number-eq-DOES_NOT_FIT : goal.returns-then-number-eq-DOES_NOT_FIT
returns-then-number-eq-DOES_NOT_FIT c =
    let a = c.args in
    let bytes = a.bytes.now in
    let loop = c.loop-at in
    let cursor = loop.invariant.0 in
    let more = c.loop-at-test.true in
    let size = c.entry_size-size.result in
    let is-size = c.entry_size-size.ensures in
    let long = left_long a.reading bytes loop.at in
    let large : 5 ≤ size = size_5 a.reading bytes loop.count loop.at cursor more size is-size in
    let room : size ≤ length (left_at a.reading bytes loop.at) = c.if-left-size.false in
    let part : List ℕ = take size (left_at a.reading bytes loop.at) in
    let stream : Stream = stream_in a.reading a.pair part in
    let is-stream : stream ≡ stream = refl in
    let here = stands_here a.reading bytes loop.count loop.at cursor more size is-size room a.pair c.requires.1 stream is-stream in
    let judged = c.judge_entry-number in
    does_not_fit (streams_of a.reading bytes) loop.fault.number loop.fault.place loop.count
    (inside_here a.reading bytes loop.count loop.at cursor more size is-size room a.pair c.requires.1 stream is-stream)
    (ap (λ (s : Stream). s.fits) here ∙ two_unfit (given a.pair stream.stream_type) loop.pids loop.indices stream (sym judged.ensures.value.0 ∙ c.if-number-eq-DOES_NOT_FIT.true))
    loop.invariant.2 loop.invariant.1.lowest

pub overflow_add-count : goal.overflow_add-count
overflow_add-count c =
    let a = c.args in
    let within = c.requires.0 in
    let bytes = a.bytes.now in
    let loop = c.loop-at in
    let cursor = loop.invariant.0 in
    let more = c.loop-at-test.true in
    let size = c.entry_size-size.result in
    let is-size = c.entry_size-size.ensures in
    let long = left_long a.reading bytes loop.at in
    let large : 5 ≤ size = size_5 a.reading bytes loop.count loop.at cursor more size is-size in
    let room : size ≤ length (left_at a.reading bytes loop.at) = c.if-left-size.false in
    let short = cursor.spaced in
    omega arith

pub overflow_add-at : goal.overflow_add-at
overflow_add-at c =
    let a = c.args in
    let within = c.requires.0 in
    let bytes = a.bytes.now in
    let loop = c.loop-at in
    let cursor = loop.invariant.0 in
    let more = c.loop-at-test.true in
    let size = c.entry_size-size.result in
    let is-size = c.entry_size-size.ensures in
    let long = left_long a.reading bytes loop.at in
    let large : 5 ≤ size = size_5 a.reading bytes loop.count loop.at cursor more size is-size in
    let room : size ≤ length (left_at a.reading bytes loop.at) = c.if-left-size.false in
    omega arith

pub loop-at-smaller : goal.loop-at-smaller
loop-at-smaller c =
    let a = c.args in
    let within = c.requires.0 in
    let bytes = a.bytes.now in
    let loop = c.loop-at in
    let cursor = loop.invariant.0 in
    let more = c.loop-at-test.true in
    let size = c.entry_size-size.result in
    let is-size = c.entry_size-size.ensures in
    let long = left_long a.reading bytes loop.at in
    let large : 5 ≤ size = size_5 a.reading bytes loop.count loop.at cursor more size is-size in
    let room : size ≤ length (left_at a.reading bytes loop.at) = c.if-left-size.false in
    omega arith

pub loop-at-preserved : goal.loop-at-preserved
loop-at-preserved c =
    let a = c.args in
    let bytes = a.bytes.now in
    let loop = c.loop-at in
    let cursor = loop.invariant.0 in
    let more = c.loop-at-test.true in
    let size = c.entry_size-size.result in
    let is-size = c.entry_size-size.ensures in
    let long = left_long a.reading bytes loop.at in
    let large : 5 ≤ size = size_5 a.reading bytes loop.count loop.at cursor more size is-size in
    let room : size ≤ length (left_at a.reading bytes loop.at) = c.if-left-size.false in
    let part : List ℕ = take size (left_at a.reading bytes loop.at) in
    let stream : Stream = stream_in a.reading a.pair part in
    let is-stream : stream ≡ stream = refl in
    let here = stands_here a.reading bytes loop.count loop.at cursor more size is-size room a.pair c.requires.1 stream is-stream in
    let judged = c.judge_entry-number in
    let next = c.lower-fault in
    let all = streams_of a.reading bytes in
    let small = pid_here a.reading bytes loop.count loop.at cursor more size is-size room a.pair c.requires.1 stream is-stream in
    let gives : Bool = given a.pair stream.stream_type in
    let is_given_lem = given_here a.reading bytes loop.count loop.at cursor more size is-size room a.pair c.requires.1 stream is-stream in
    let index : index_of stream.stream_type stream.seen.«record» < 256 = judged.ensures.value.1 in
    let told : next.result ≡ lower_of loop.fault (fault_at gives loop.pids loop.indices stream) loop.count =
    next.ensures ∙ ap (λ (n : ℕ). lower_of loop.fault n loop.count) judged.ensures.value.0 in
    let other : fault_at gives loop.pids loop.indices stream ≢ 2 = λ two. c.if-number-eq-DOES_NOT_FIT.false (judged.ensures.value.0 ∙ two) in (
      next_here a.reading bytes loop.count loop.at cursor more size is-size room a.pair c.requires.1 stream is-stream,
      passed_next all loop.pids loop.indices loop.fault loop.count loop.invariant.1 gives stream here is_given_lem small index next.result _ _
          told judged.ensures.pids_after.0 judged.ensures.pids_after.1,
      stays_above all loop.pids loop.indices loop.fault loop.count loop.invariant.1 gives stream here is_given_lem small index
          (no_two_fits gives loop.pids loop.indices stream other) loop.invariant.2 next.result told,
    )

pub returns-then-fault-lt-NO_FAULT : goal.returns-then-fault-lt-NO_FAULT
returns-then-fault-lt-NO_FAULT c =
    let a = c.args in
    let loop = c.loop-at in
    ap (λ (r : Refusal). Err r) c.refusal_of.ensures
    ∙ end_refused a.reading a.bytes.now loop.fault loop.count loop.at loop.invariant.0 loop.invariant.1.lowest c.loop-at-test.false c.if-fault-lt-NO_FAULT.true

pub returns : goal.returns
returns c =
    let a = c.args in
    let loop = c.loop-at in
    end_accepted a.reading a.bytes.now loop.fault loop.count loop.at loop.invariant.0 loop.invariant.1.lowest c.loop-at-test.false a.pair c.requires.1 c.if-fault-lt-NO_FAULT.false
