-- `loop_views::view_in` meets its contract: a view is of a type that each reading knows, so that its first record is what is seen of it; of another entry
-- nothing is kept.
-- Assumes nothing.
use Prim.Native.Nat.{ℕ}
use mathlib.Core.Path.{◌∙◌, ap, sym}
use mathlib.Core.Bool.{Bool, cond}
use mathlib.Core.List.{List}
use native.Mathlib.Omega.{arith}
use lib.ListN.{get_or, drop}
use Rattle.combinators.specs.Lists.{part_to_end}
use Rattle.descriptors.specs.declared.looking.Named.{Named}
use Rattle.descriptors.specs.Looking.{seen_of, nothing_seen}
use Rattle.implied.specs.Marking.{is_described}
use Rattle.implied.specs.Walking.{view_next}
use Rattle.implied.proofs.Marks.{view_known}
use Rattle.implied.proofs.Walk.{no_view}
use Rattle.loop_entries.specs.declared.Stream.{Stream}
use Rattle.loop_entries.specs.Entries.{seen_in, shown_of}
use Rattle.loop_entries.proofs.Heads.{stream_bytes}
use Rattle.loop_views.proofs.view_in.Goals as goal

pub returns-then-is_view : goal.returns-then-is_view
returns-then-is_view c =
    let a = c.args in
    let entry = a.entry.now in
    let t : ℕ = get_or entry 0 0 in
    let view = sym c.is_view.ensures ∙ c.if-is_view.true in
    let seen = c.is_described-described.ensures
    ∙ ap (λ (n : Named). is_described n.«record») (c.name_layers-named.ensures t)
    ∙ ap (λ (l : List ℕ). is_described (seen_of a.reading l).«record») (part_to_end entry 5)
    ∙ sym (ap (λ (b : Bool). is_described (cond b (seen_of a.reading (drop 5 entry)) nothing_seen).«record») (view_known a.reading t view)) in
    c.view_next.ensures
    ∙ ap (λ (b : Bool). view_next a.views (record { type = t; described = b })) seen
    ∙ ap (λ (s : Stream). view_next a.views (shown_of s)) (stream_bytes a.reading entry (λ i. omega (arith, c.shared_slice_known-2-1.given i)))

pub returns : goal.returns
returns c =
    let a = c.args in
    let entry = a.entry.now in
    let t : ℕ = get_or entry 0 0 in
    let other = sym c.is_view.ensures ∙ c.if-is_view.false in
    sym (no_view a.views (record { type = t; described = is_described (seen_in a.reading t (drop 5 entry)).«record» }) other)
    ∙ ap (λ (s : Stream). view_next a.views (shown_of s)) (stream_bytes a.reading entry (λ i. omega (arith, c.shared_slice_known-2-1.given i)))
