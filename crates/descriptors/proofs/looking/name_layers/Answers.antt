-- `descriptors::name_layers` meets its contract. The loop's invariant: the first record among the bytes left is the first of all.
-- Assumes nothing.
use Prim.Native.Nat.{ℕ, ◌+◌, ◌-◌}
use native.Mathlib.Omega.{arith}
use mathlib.Core.Path.{◌≡◌, refl, sym, ◌∙◌, ap, subst}
use mathlib.Core.List.{List, ◌++◌}
use native.Mathlib.Nat.{add-sub_cancel_left}
use lib.ListN.{length, take, drop, drop_of_length-le}
use Rattle.combinators.specs.Lists.{part_to_end, gather}
use Rattle.descriptors.specs.declared.looking.Named.{Named}
use Rattle.descriptor_heads.specs.Head.{descriptor_tag, descriptor_length}
use Rattle.records.specs.Records.{is_layer}
use Rattle.descriptors.specs.Looking.{Kind, Held, held_in, kinds_of, payload_kind, seen_of}
use Rattle.descriptors.specs.Finding.{named_in, named_by}
use Rattle.descriptor_heads.proofs.Heads.{framed_other, framed_fits}
use Rattle.descriptors.proofs.Walk.{left_length, kinds_stop, kinds_next}
use Rattle.descriptors.proofs.Finding.{first_named, none_named}
use Rattle.descriptors.proofs.looking.name_layers.Goals as goal

pub loop-at-init : goal.loop-at-init
loop-at-init c = (omega arith, λ stream_type. refl)

pub returns-in_default : goal.returns-in_default
returns-in_default c stream_type =
    let a = c.args in
    let loop = c.loop-at in
    let info = a.info.now in
    let left : List ℕ = take (length info - loop.at) (drop loop.at info) in
    let rest : left ≡ drop loop.at info = part_to_end info loop.at in
    let long = left_length a.reading info left loop.at rest in
    c.nothing_named.ensures stream_type
    ∙ sym (ap (λ (ks : List Kind). named_in stream_type (gather held_in ks)) (kinds_stop a.reading info left loop.at rest (omega arith) (framed_other left c.first_descriptor.result c.first_descriptor.ensures c.in_default.not-Some)))
    ∙ loop.invariant.1 stream_type

pub slice_bounds-named_at-count : goal.slice_bounds-named_at-count
slice_bounds-named_at-count c =
    let a = c.args in
    let loop = c.loop-at in
    let info = a.info.now in
    let left : List ℕ = take (length info - loop.at) (drop loop.at info) in
    let rest : left ≡ drop loop.at info = part_to_end info loop.at in
    let long = left_length a.reading info left loop.at rest in
    let first = c.in-Some.first in
    let framed = framed_fits left c.first_descriptor.result c.first_descriptor.ensures first c.in-Some.is in
    let fits = framed.0 in
    let is_end : first.end ≡ 2 + descriptor_length left = framed.2 in
    omega arith

pub slice_bounds-named_at-start : goal.slice_bounds-named_at-start
slice_bounds-named_at-start c =
    let a = c.args in
    let loop = c.loop-at in
    let info = a.info.now in
    let left : List ℕ = take (length info - loop.at) (drop loop.at info) in
    let rest : left ≡ drop loop.at info = part_to_end info loop.at in
    let long = left_length a.reading info left loop.at rest in
    let first = c.in-Some.first in
    let framed = framed_fits left c.first_descriptor.result c.first_descriptor.ensures first c.in-Some.is in
    let fits = framed.0 in
    let is_end : first.end ≡ 2 + descriptor_length left = framed.2 in
    omega arith

pub slice_bounds-named_at-end : goal.slice_bounds-named_at-end
slice_bounds-named_at-end c =
    let a = c.args in
    let loop = c.loop-at in
    let info = a.info.now in
    let left : List ℕ = take (length info - loop.at) (drop loop.at info) in
    let rest : left ≡ drop loop.at info = part_to_end info loop.at in
    let long = left_length a.reading info left loop.at rest in
    let first = c.in-Some.first in
    let framed = framed_fits left c.first_descriptor.result c.first_descriptor.ensures first c.in-Some.is in
    let fits = framed.0 in
    let is_end : first.end ≡ 2 + descriptor_length left = framed.2 in
    omega arith

pub returns-then-is_layer : goal.returns-then-is_layer
returns-then-is_layer c stream_type =
    let a = c.args in
    let loop = c.loop-at in
    let info = a.info.now in
    let left : List ℕ = take (length info - loop.at) (drop loop.at info) in
    let rest : left ≡ drop loop.at info = part_to_end info loop.at in
    let long = left_length a.reading info left loop.at rest in
    let first = c.in-Some.first in
    let framed = framed_fits left c.first_descriptor.result c.first_descriptor.ensures first c.in-Some.is in
    let fits = framed.0 in
    let is_end : first.end ≡ 2 + descriptor_length left = framed.2 in
    let n : ℕ = descriptor_length left in
    let kind : Kind = payload_kind a.reading (descriptor_tag left) (take n (drop 2 left)) in
    let named = c.named_at-named in
    let is-named : named.result ≡ named_in stream_type (held_in kind) =
    named.ensures stream_type
    ∙ ap (λ (m : ℕ). named_in stream_type (held_in (payload_kind a.reading first.tag (take (m - 2) (drop 2 left))))) is_end
    ∙ ap (λ (m : ℕ). named_in stream_type (held_in (payload_kind a.reading first.tag (take m (drop 2 left))))) (add-sub_cancel_left 2 n)
    ∙ ap (λ (t : ℕ). named_in stream_type (held_in (payload_kind a.reading t (take n (drop 2 left))))) framed.1 in
    let others : List Held = gather held_in (kinds_of a.reading (drop (loop.at + (2 + n)) info)) in
    let whether : is_layer (named_in stream_type (held_in kind)).«record» ≡ c.is_layer.result =
    sym (c.is_layer.ensures ∙ ap (λ (x : Named). is_layer x.«record») is-named) in
    let front : named_in stream_type (held_in kind ++ others) ≡ named_by stream_type (seen_of a.reading info) =
    sym (ap (λ (ks : List Kind). named_in stream_type (gather held_in ks)) (kinds_next a.reading info left loop.at rest fits)) ∙ loop.invariant.1 stream_type in
    is-named ∙ first_named stream_type kind others (whether ∙ c.if-is_layer.true) ∙ front

pub overflow_add-at : goal.overflow_add-at
overflow_add-at c =
    let a = c.args in
    let loop = c.loop-at in
    let info = a.info.now in
    let left : List ℕ = take (length info - loop.at) (drop loop.at info) in
    let rest : left ≡ drop loop.at info = part_to_end info loop.at in
    let long = left_length a.reading info left loop.at rest in
    let first = c.in-Some.first in
    let framed = framed_fits left c.first_descriptor.result c.first_descriptor.ensures first c.in-Some.is in
    let fits = framed.0 in
    let is_end : first.end ≡ 2 + descriptor_length left = framed.2 in
    omega arith

pub loop-at-smaller : goal.loop-at-smaller
loop-at-smaller c =
    let a = c.args in
    let loop = c.loop-at in
    let info = a.info.now in
    let left : List ℕ = take (length info - loop.at) (drop loop.at info) in
    let rest : left ≡ drop loop.at info = part_to_end info loop.at in
    let long = left_length a.reading info left loop.at rest in
    let first = c.in-Some.first in
    let framed = framed_fits left c.first_descriptor.result c.first_descriptor.ensures first c.in-Some.is in
    let fits = framed.0 in
    let is_end : first.end ≡ 2 + descriptor_length left = framed.2 in
    omega arith

pub loop-at-preserved : goal.loop-at-preserved
loop-at-preserved c =
    let a = c.args in
    let loop = c.loop-at in
    let info = a.info.now in
    let left : List ℕ = take (length info - loop.at) (drop loop.at info) in
    let rest : left ≡ drop loop.at info = part_to_end info loop.at in
    let long = left_length a.reading info left loop.at rest in
    let first = c.in-Some.first in
    let framed = framed_fits left c.first_descriptor.result c.first_descriptor.ensures first c.in-Some.is in
    let fits = framed.0 in
    let is_end : first.end ≡ 2 + descriptor_length left = framed.2 in
    let n : ℕ = descriptor_length left in
    let kind : Kind = payload_kind a.reading (descriptor_tag left) (take n (drop 2 left)) in
    let named = c.named_at-named in
    let others : List Held = gather held_in (kinds_of a.reading (drop (loop.at + (2 + n)) info)) in (
      omega arith,
      λ stream_type.
          let is-named : named.result ≡ named_in stream_type (held_in kind) =
          named.ensures stream_type
          ∙ ap (λ (m : ℕ). named_in stream_type (held_in (payload_kind a.reading first.tag (take (m - 2) (drop 2 left))))) is_end
          ∙ ap (λ (m : ℕ). named_in stream_type (held_in (payload_kind a.reading first.tag (take m (drop 2 left))))) (add-sub_cancel_left 2 n)
          ∙ ap (λ (t : ℕ). named_in stream_type (held_in (payload_kind a.reading t (take n (drop 2 left))))) framed.1 in
          let whether : is_layer (named_in stream_type (held_in kind)).«record» ≡ c.is_layer.result =
          sym (c.is_layer.ensures ∙ ap (λ (x : Named). is_layer x.«record») is-named) in
          let front : named_in stream_type (held_in kind ++ others) ≡ named_by stream_type (seen_of a.reading info) =
          sym (ap (λ (ks : List Kind). named_in stream_type (gather held_in ks)) (kinds_next a.reading info left loop.at rest fits)) ∙ loop.invariant.1 stream_type in
          subst (λ (e : ℕ). named_in stream_type (gather held_in (kinds_of a.reading (drop (loop.at + e) info))) ≡ named_by stream_type (seen_of a.reading info)) (sym is_end)
          (none_named stream_type kind others (whether ∙ c.if-is_layer.false) ∙ front),
    )

pub returns : goal.returns
returns c stream_type =
    let a = c.args in
    let loop = c.loop-at in
    c.nothing_named-2.ensures stream_type
    ∙ sym (ap (λ (l : List ℕ). named_in stream_type (gather held_in (kinds_of a.reading l))) (drop_of_length-le a.info.now {i = loop.at} (omega arith)))
    ∙ loop.invariant.1 stream_type
