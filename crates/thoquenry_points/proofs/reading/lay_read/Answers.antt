-- `lay_read` meets its contract.
-- Assumes nothing.
use Rattle.thoquenry_points.proofs.Answered.{at_values, all_small, room_is, there_is_room, no_room, summary_is, all_laid}
use Rattle.thoquenry_points.specs.Reading.{lists}
use Rattle.program_points.proofs.Filled.{points_in_lem, payloads_held, points_many, payloads_many, all_points, all_payloads, counts_taken, profiles_taken}
use Rattle.program_points.specs.Told.{streams_of, row_in}
use Rattle.operation_points.specs.Values.{reference_bytes, layer_bytes}
use lib.ListN.{length}
use mathlib.Core.Path.{◌≡◌, sym, ap, subst, ◌∙◌}
use mathlib.Core.List.{List}
use Prim.Native.Nat.{ℕ, ◌≤◌}
use native.Mathlib.Omega.{arith}
use Rattle.thoquenry_points.proofs.reading.lay_read.Goals as goal

pub overflow_mul-payload_count : goal.overflow_mul-payload_count
overflow_mul-payload_count c =
    let a = c.args in
    omega (arith, (all_small a.program.now (λ i. (c.shared_slice_known-1.given i).fits) a.read c.requires).descriptors)

pub overflow_mul-count : goal.overflow_mul-count
overflow_mul-count c =
    let a = c.args in
    omega (arith, (all_small a.program.now (λ i. (c.shared_slice_known-1.given i).fits) a.read c.requires).points)

pub returns-then-not-has_room : goal.returns-then-not-has_room
returns-then-not-has_room c =
    let a = c.args in
    no_room a.program.now (λ i. (c.shared_slice_known-1.given i).fits) a.read c.requires (lists a.descriptors.now a.profiles.now a.points.now a.references.now a.flags.now a.streams.now a.summary.now) c.refused.ensures (sym (room_is a.program.now (λ i. (c.shared_slice_known-1.given i).fits) a.read c.requires (lists a.descriptors.now a.profiles.now a.points.now a.references.now a.flags.now a.streams.now a.summary.now) c.has_room.result c.has_room.ensures) ∙ c.if-not-has_room.true)

pub summary_of-numbers-requires : goal.summary_of-numbers-requires
summary_of-numbers-requires c =
    let a = c.args in
    let s = all_small a.program.now (λ i. (c.shared_slice_known-1.given i).fits) a.read c.requires in
    (s.descriptors, s.profiles, s.points, s.references, s.flags, s.streams)

pub slice_bounds-payloads-end : goal.slice_bounds-payloads-end
slice_bounds-payloads-end c =
    let a = c.args in
    payloads_held a.program.now (λ i. (c.shared_slice_known-1.given i).fits) a.read.found c.requires.filled

pub slice_bounds-lay_payloads-end : goal.slice_bounds-lay_payloads-end
slice_bounds-lay_payloads-end c =
    let a = c.args in
    payloads_many a.program.now (λ i. (c.shared_slice_known-1.given i).fits) a.read.found c.requires.filled

pub lay_payloads-requires : goal.lay_payloads-requires
lay_payloads-requires c =
    let a = c.args in
    let w = there_is_room a.program.now (λ i. (c.shared_slice_known-1.given i).fits) a.read c.requires (lists a.descriptors.now a.profiles.now a.points.now a.references.now a.flags.now a.streams.now a.summary.now) (sym (room_is a.program.now (λ i. (c.shared_slice_known-1.given i).fits) a.read c.requires (lists a.descriptors.now a.profiles.now a.points.now a.references.now a.flags.now a.streams.now a.summary.now) c.has_room.result c.has_room.ensures) ∙ c.if-not-has_room.false) in
    (all_payloads a.program.now (λ i. (c.shared_slice_known-1.given i).fits) a.read.found c.requires.filled, subst (λ (l : List ℕ). length l ≤ length a.descriptors.now) (sym (counts_taken a.program.now (λ i. (c.shared_slice_known-1.given i).fits) a.read.found c.requires.filled)) w.descriptors, subst (λ (l : List ℕ). length l ≤ length a.profiles.now) (sym (profiles_taken a.program.now (λ i. (c.shared_slice_known-1.given i).fits) a.read.found c.requires.filled)) w.profiles)

pub slice_bounds-places-end : goal.slice_bounds-places-end
slice_bounds-places-end c =
    let a = c.args in
    points_in_lem a.program.now (λ i. (c.shared_slice_known-1.given i).fits) a.read.found c.requires.filled

pub slice_bounds-lay_points-end : goal.slice_bounds-lay_points-end
slice_bounds-lay_points-end c =
    let a = c.args in
    points_many a.program.now (λ i. (c.shared_slice_known-1.given i).fits) a.read.found c.requires.filled

pub lay_points-requires : goal.lay_points-requires
lay_points-requires c =
    let a = c.args in
    let w = there_is_room a.program.now (λ i. (c.shared_slice_known-1.given i).fits) a.read c.requires (lists a.descriptors.now a.profiles.now a.points.now a.references.now a.flags.now a.streams.now a.summary.now) (sym (room_is a.program.now (λ i. (c.shared_slice_known-1.given i).fits) a.read c.requires (lists a.descriptors.now a.profiles.now a.points.now a.references.now a.flags.now a.streams.now a.summary.now) c.has_room.result c.has_room.ensures) ∙ c.if-not-has_room.false) in
    (all_points a.program.now (λ i. (c.shared_slice_known-1.given i).fits) a.read.found c.requires.filled, subst (λ (l : List ℕ). length l ≤ length a.points.now) (sym (at_values a.program.now (λ i. (c.shared_slice_known-1.given i).fits) a.read c.requires (row_in a.read.layers))) w.points, subst (λ (l : List ℕ). length l ≤ length a.references.now) (sym (at_values a.program.now (λ i. (c.shared_slice_known-1.given i).fits) a.read c.requires reference_bytes)) w.references, subst (λ (l : List ℕ). length l ≤ length a.flags.now) (sym (at_values a.program.now (λ i. (c.shared_slice_known-1.given i).fits) a.read c.requires layer_bytes)) w.layers, subst (λ (l : List ℕ). length l ≤ length a.streams.now) (sym (at_values a.program.now (λ i. (c.shared_slice_known-1.given i).fits) a.read c.requires (streams_of a.read.layers))) w.streams)

pub put_numbers-requires : goal.put_numbers-requires
put_numbers-requires c =
    let a = c.args in
    let w = there_is_room a.program.now (λ i. (c.shared_slice_known-1.given i).fits) a.read c.requires (lists a.descriptors.now a.profiles.now a.points.now a.references.now a.flags.now a.streams.now a.summary.now) (sym (room_is a.program.now (λ i. (c.shared_slice_known-1.given i).fits) a.read c.requires (lists a.descriptors.now a.profiles.now a.points.now a.references.now a.flags.now a.streams.now a.summary.now) c.has_room.result c.has_room.ensures) ∙ c.if-not-has_room.false) in
    let six : length c.summary_of-numbers.result ≡ 6 = ap length c.summary_of-numbers.ensures in
    omega (arith, six, w.summary)

pub returns : goal.returns
returns c =
    let a = c.args in
    all_laid a.program.now (λ i. (c.shared_slice_known-1.given i).fits) a.read c.requires (lists a.descriptors.now a.profiles.now a.points.now a.references.now a.flags.now a.streams.now a.summary.now) c.accepted.result _ _ _ _ _ _ _ c.summary_of-numbers.result _ c.accepted.ensures (sym (room_is a.program.now (λ i. (c.shared_slice_known-1.given i).fits) a.read c.requires (lists a.descriptors.now a.profiles.now a.points.now a.references.now a.flags.now a.streams.now a.summary.now) c.has_room.result c.has_room.ensures) ∙ c.if-not-has_room.false)
    c.lay_payloads.ensures.0 c.lay_payloads.ensures.1 c.lay_points.ensures.0 c.lay_points.ensures.1 c.lay_points.ensures.2 c.lay_points.ensures.3
    (summary_is a.program.now (λ i. (c.shared_slice_known-1.given i).fits) a.read c.requires (lists a.descriptors.now a.profiles.now a.points.now a.references.now a.flags.now a.streams.now a.summary.now) c.summary_of-numbers.ensures) c.put_numbers.ensures
