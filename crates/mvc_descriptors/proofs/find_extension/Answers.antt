-- `find_extension` meets its contract. The loop's invariant: what was found so far, continued over the descriptors left, is what is found in all.
-- Assumes nothing.
use Prim.Native.Nat.{ℕ, ◌+◌, ◌-◌}
use native.Mathlib.Omega.{arith}
use mathlib.Core.Path.{◌≡◌, sym, ◌∙◌, ap, subst}
use mathlib.Core.List.{List}
use native.Mathlib.Nat.{add-sub_cancel_left}
use lib.ListN.{length, take, drop, drop_of_length-le}
use Rattle.combinators.specs.Lists.{part_to_end}
use Rattle.descriptor_heads.specs.Head.{descriptor_tag, descriptor_length}
use Rattle.descriptor_heads.proofs.Heads.{framed_other, framed_fits}
use Rattle.mvc_descriptors.specs.declared.Found.{Found}
use Rattle.mvc_descriptors.specs.Finding.{extension_payloads, extension_in, found_by, found_after}
use Rattle.mvc_descriptors.proofs.Walk.{walk_finds, by_tag_next, left_length, payloads_stop, payloads_next}
use Rattle.mvc_descriptors.proofs.find_extension.Goals as goal

pub loop-at-init : goal.loop-at-init
loop-at-init c = (omega arith, walk_finds (extension_payloads c.args.info.now))

pub returns-in_default : goal.returns-in_default
returns-in_default c =
    let a = c.args in
    let loop = c.loop-at in
    let info = a.info.now in
    let left : List ℕ = take (length info - loop.at) (drop loop.at info) in
    let rest : left ≡ drop loop.at info = part_to_end info loop.at in
    let long = left_length info left loop.at rest in
    sym (ap (found_after loop.found) (payloads_stop info left loop.at rest (omega arith) (framed_other left c.first_descriptor.result c.first_descriptor.ensures c.in_default.not-Some)))
    ∙ loop.invariant.1

pub slice_bounds-found_by-count : goal.slice_bounds-found_by-count
slice_bounds-found_by-count c =
    let a = c.args in
    let loop = c.loop-at in
    let info = a.info.now in
    let left : List ℕ = take (length info - loop.at) (drop loop.at info) in
    let rest : left ≡ drop loop.at info = part_to_end info loop.at in
    let long = left_length info left loop.at rest in
    let first = c.in-Some.first in
    let framed = framed_fits left c.first_descriptor.result c.first_descriptor.ensures first c.in-Some.is in
    let fits = framed.0 in
    let is_end : first.end ≡ 2 + descriptor_length left = framed.2 in
    omega arith

pub slice_bounds-found_by-start : goal.slice_bounds-found_by-start
slice_bounds-found_by-start c =
    let a = c.args in
    let loop = c.loop-at in
    let info = a.info.now in
    let left : List ℕ = take (length info - loop.at) (drop loop.at info) in
    let rest : left ≡ drop loop.at info = part_to_end info loop.at in
    let long = left_length info left loop.at rest in
    let first = c.in-Some.first in
    let framed = framed_fits left c.first_descriptor.result c.first_descriptor.ensures first c.in-Some.is in
    let fits = framed.0 in
    let is_end : first.end ≡ 2 + descriptor_length left = framed.2 in
    omega arith

pub slice_bounds-found_by-end : goal.slice_bounds-found_by-end
slice_bounds-found_by-end c =
    let a = c.args in
    let loop = c.loop-at in
    let info = a.info.now in
    let left : List ℕ = take (length info - loop.at) (drop loop.at info) in
    let rest : left ≡ drop loop.at info = part_to_end info loop.at in
    let long = left_length info left loop.at rest in
    let first = c.in-Some.first in
    let framed = framed_fits left c.first_descriptor.result c.first_descriptor.ensures first c.in-Some.is in
    let fits = framed.0 in
    let is_end : first.end ≡ 2 + descriptor_length left = framed.2 in
    omega arith

pub overflow_add-at : goal.overflow_add-at
overflow_add-at c =
    let a = c.args in
    let loop = c.loop-at in
    let info = a.info.now in
    let left : List ℕ = take (length info - loop.at) (drop loop.at info) in
    let rest : left ≡ drop loop.at info = part_to_end info loop.at in
    let long = left_length info left loop.at rest in
    let first = c.in-Some.first in
    let framed = framed_fits left c.first_descriptor.result c.first_descriptor.ensures first c.in-Some.is in
    let fits = framed.0 in
    let is_end : first.end ≡ 2 + descriptor_length left = framed.2 in
    omega arith

pub loop-at-smaller : goal.loop-at-smaller
loop-at-smaller c =
    let a = c.args in
    let loop = c.loop-at in
    let info = a.info.now in
    let left : List ℕ = take (length info - loop.at) (drop loop.at info) in
    let rest : left ≡ drop loop.at info = part_to_end info loop.at in
    let long = left_length info left loop.at rest in
    let first = c.in-Some.first in
    let framed = framed_fits left c.first_descriptor.result c.first_descriptor.ensures first c.in-Some.is in
    let fits = framed.0 in
    let is_end : first.end ≡ 2 + descriptor_length left = framed.2 in
    omega arith

pub loop-at-preserved : goal.loop-at-preserved
loop-at-preserved c =
    let a = c.args in
    let loop = c.loop-at in
    let info = a.info.now in
    let left : List ℕ = take (length info - loop.at) (drop loop.at info) in
    let rest : left ≡ drop loop.at info = part_to_end info loop.at in
    let long = left_length info left loop.at rest in
    let first = c.in-Some.first in
    let framed = framed_fits left c.first_descriptor.result c.first_descriptor.ensures first c.in-Some.is in
    let fits = framed.0 in
    let is_end : first.end ≡ 2 + descriptor_length left = framed.2 in
    let n : ℕ = descriptor_length left in
    let payload : List ℕ = take n (drop 2 left) in
    let others = extension_payloads (drop (loop.at + (2 + n)) info) in
    let is_found : c.found_by-found.result ≡ found_by loop.found (descriptor_tag left) payload =
    c.found_by-found.ensures
    ∙ ap (λ (m : ℕ). found_by loop.found first.tag (take (m - 2) (drop 2 left))) is_end
    ∙ ap (λ (m : ℕ). found_by loop.found first.tag (take m (drop 2 left))) (add-sub_cancel_left 2 n)
    ∙ ap (λ (t : ℕ). found_by loop.found t payload) framed.1 in (
      omega arith,
      subst (λ (e : ℕ). found_after c.found_by-found.result (extension_payloads (drop (loop.at + e) info)) ≡ extension_in info) (sym is_end)
          (ap (λ (f : Found). found_after f others) is_found
          ∙ sym (by_tag_next loop.found (descriptor_tag left) payload others)
          ∙ sym (ap (found_after loop.found) (payloads_next info left loop.at rest fits))
          ∙ loop.invariant.1),
    )

pub returns : goal.returns
returns c =
    let a = c.args in
    let loop = c.loop-at in
    sym (ap (λ (l : List ℕ). found_after loop.found (extension_payloads l)) (drop_of_length-le a.info.now {i = loop.at} (omega arith)))
    ∙ loop.invariant.1
