-- `descriptors::find_records` meets its contract. The loop's invariant: what was found so far, as it is seen, and the kinds of the bytes left,
-- come to what is seen of all; and the list of the first record lies within the bytes.
-- Assumes nothing.
use Prim.Native.Nat.{ℕ, ◌+◌, ◌-◌, ◌≤◌}
use native.Mathlib.Omega.{arith}
use mathlib.Core.Path.{◌≡◌, ◌∙◌, ap, sym, subst}
use mathlib.Core.List.{List}
use native.Mathlib.Nat.{add-sub_cancel_left}
use lib.ListN.{length, take, drop, drop_of_length-le}
use Rattle.combinators.specs.Lists.{part_to_end}
use Rattle.descriptor_heads.proofs.Heads.{framed_other, framed_fits}
use Rattle.descriptors.proofs.Walk.{left_length, stop, next}
use Rattle.descriptor_heads.specs.Head.{descriptor_tag, descriptor_length}
use Rattle.descriptors.specs.Looking.{Kind, kinds_of, payload_kind, seen_of}
use Rattle.descriptors.specs.declared.looking.Look.{Look}
use Rattle.descriptors.specs.Finding.{look_of, look_found, seen_by}
use Rattle.descriptors.proofs.Steps.{seen_after, steps_see}
use Rattle.descriptors.proofs.Finding.{Stands, found_seen, found_within, payload_stands}
use Rattle.descriptors.proofs.looking.find_records.Goals as goal

pub loop-at-init : goal.loop-at-init
loop-at-init c =
    let a = c.args in
    (omega arith, rw c.nothing_found-found.ensures tt, rw c.nothing_found-found.ensures (steps_see (kinds_of a.reading a.info.now)))

pub returns-in_default : goal.returns-in_default
returns-in_default c =
    let a = c.args in
    let loop = c.loop-at in
    let info = a.info.now in
    let left : List ℕ = take (length info - loop.at) (drop loop.at info) in
    let rest : left ≡ drop loop.at info = part_to_end info loop.at in
    let long = left_length a.reading info left loop.at rest in
    (rw c.unfit.ensures (
      stop a.reading info left loop.at rest (seen_by info loop.found) loop.invariant.2 (omega arith)
          (framed_other left c.first_descriptor.result c.first_descriptor.ensures c.in_default.not-Some),
      loop.invariant.1,
    ))

pub slice_bounds-look_at-count : goal.slice_bounds-look_at-count
slice_bounds-look_at-count c =
    let a = c.args in
    let loop = c.loop-at in
    let info = a.info.now in
    let left : List ℕ = take (length info - loop.at) (drop loop.at info) in
    let rest : left ≡ drop loop.at info = part_to_end info loop.at in
    let long = left_length a.reading info left loop.at rest in
    let first = c.in-Some.first in
    let framed = framed_fits left c.first_descriptor.result c.first_descriptor.ensures first c.in-Some.is in
    let fits = framed.0 in
    let is_end : first.end ≡ 2 + descriptor_length left = framed.2 in
    omega arith

pub slice_bounds-look_at-start : goal.slice_bounds-look_at-start
slice_bounds-look_at-start c =
    let a = c.args in
    let loop = c.loop-at in
    let info = a.info.now in
    let left : List ℕ = take (length info - loop.at) (drop loop.at info) in
    let rest : left ≡ drop loop.at info = part_to_end info loop.at in
    let long = left_length a.reading info left loop.at rest in
    let first = c.in-Some.first in
    let framed = framed_fits left c.first_descriptor.result c.first_descriptor.ensures first c.in-Some.is in
    let fits = framed.0 in
    let is_end : first.end ≡ 2 + descriptor_length left = framed.2 in
    omega arith

pub slice_bounds-look_at-end : goal.slice_bounds-look_at-end
slice_bounds-look_at-end c =
    let a = c.args in
    let loop = c.loop-at in
    let info = a.info.now in
    let left : List ℕ = take (length info - loop.at) (drop loop.at info) in
    let rest : left ≡ drop loop.at info = part_to_end info loop.at in
    let long = left_length a.reading info left loop.at rest in
    let first = c.in-Some.first in
    let framed = framed_fits left c.first_descriptor.result c.first_descriptor.ensures first c.in-Some.is in
    let fits = framed.0 in
    let is_end : first.end ≡ 2 + descriptor_length left = framed.2 in
    omega arith

pub overflow_add-at : goal.overflow_add-at
overflow_add-at c =
    let a = c.args in
    let loop = c.loop-at in
    let info = a.info.now in
    let left : List ℕ = take (length info - loop.at) (drop loop.at info) in
    let rest : left ≡ drop loop.at info = part_to_end info loop.at in
    let long = left_length a.reading info left loop.at rest in
    let first = c.in-Some.first in
    let framed = framed_fits left c.first_descriptor.result c.first_descriptor.ensures first c.in-Some.is in
    let fits = framed.0 in
    let is_end : first.end ≡ 2 + descriptor_length left = framed.2 in
    omega arith

pub loop-at-smaller : goal.loop-at-smaller
loop-at-smaller c =
    let a = c.args in
    let loop = c.loop-at in
    let info = a.info.now in
    let left : List ℕ = take (length info - loop.at) (drop loop.at info) in
    let rest : left ≡ drop loop.at info = part_to_end info loop.at in
    let long = left_length a.reading info left loop.at rest in
    let first = c.in-Some.first in
    let framed = framed_fits left c.first_descriptor.result c.first_descriptor.ensures first c.in-Some.is in
    let fits = framed.0 in
    let is_end : first.end ≡ 2 + descriptor_length left = framed.2 in
    omega arith

pub loop-at-preserved : goal.loop-at-preserved
loop-at-preserved c =
    let a = c.args in
    let loop = c.loop-at in
    let info = a.info.now in
    let left : List ℕ = take (length info - loop.at) (drop loop.at info) in
    let rest : left ≡ drop loop.at info = part_to_end info loop.at in
    let long = left_length a.reading info left loop.at rest in
    let first = c.in-Some.first in
    let framed = framed_fits left c.first_descriptor.result c.first_descriptor.ensures first c.in-Some.is in
    let fits = framed.0 in
    let is_end : first.end ≡ 2 + descriptor_length left = framed.2 in
    let n : ℕ = descriptor_length left in
    let payload : List ℕ = take n (drop 2 left) in
    let kind : Kind = payload_kind a.reading (descriptor_tag left) payload in
    let room : loop.at + (2 + n) ≤ length info = omega arith in
    let stands : Stands info (loop.at + (2 + n)) kind =
    subst (λ (l : List ℕ). Stands info (loop.at + (2 + n)) (payload_kind a.reading (descriptor_tag left) (take n (drop 2 l)))) (sym rest)
    (payload_stands info loop.at n room a.reading (descriptor_tag left)) in
    let is-look : c.look_at-look.result ≡ look_of kind =
    c.look_at-look.ensures
    ∙ ap (λ (m : ℕ). look_of (payload_kind a.reading first.tag (take (m - 2) (drop 2 left)))) is_end
    ∙ ap (λ (m : ℕ). look_of (payload_kind a.reading first.tag (take m (drop 2 left)))) (add-sub_cancel_left 2 n)
    ∙ ap (λ (t : ℕ). look_of (payload_kind a.reading t payload)) framed.1 in
    let after : c.with_look-found.result ≡ look_found loop.found (look_of kind) (loop.at + (2 + n)) =
    c.with_look-found.ensures
    ∙ ap (λ (l : Look). look_found loop.found l (loop.at + first.end)) is-look
    ∙ ap (λ (e : ℕ). look_found loop.found (look_of kind) (loop.at + e)) is_end in (
      omega arith,
      rw after (found_within info (loop.at + (2 + n)) loop.found kind stands loop.invariant.1),
      subst (λ (e : ℕ). seen_after (seen_by info c.with_look-found.result) (kinds_of a.reading (drop (loop.at + e) info)) ≡ seen_of a.reading info) (sym is_end)
          (next a.reading info left loop.at rest (seen_by info loop.found) loop.invariant.2 fits (seen_by info c.with_look-found.result)
          (ap (seen_by info) after ∙ found_seen info (loop.at + (2 + n)) loop.found kind stands)),
    )

pub returns : goal.returns
returns c =
    let a = c.args in
    let loop = c.loop-at in (
      sym (ap (λ (l : List ℕ). seen_after (seen_by a.info.now loop.found) (kinds_of a.reading l)) (drop_of_length-le a.info.now {i = loop.at} (omega arith)))
          ∙ loop.invariant.2,
      loop.invariant.1,
    )
