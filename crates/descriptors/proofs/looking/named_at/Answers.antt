-- `descriptors::named_at` meets its contract: the look says what is named.
-- Assumes nothing.
use Prim.Native.Nat.{ℕ}
use mathlib.Core.Logic.{inl, inr}
use mathlib.Core.Path.{sym, ◌∙◌, ap, subst}
use mathlib.Core.List.{List, map}
use Rattle.combinators.specs.Lists.{part_to_end}
use Rattle.records.specs.declared.Record.TheVariants.{Hierarchy, Extension}
use Rattle.descriptors.specs.declared.looking.Look.{Look}
use Rattle.extension.specs.Extension.{layers_of}
use Rattle.records.specs.Records.{plain, with_indices}
use Rattle.descriptors.specs.Looking.{held_in, payload_kind}
use Rattle.descriptors.specs.Finding.{named_in}
use Rattle.descriptors.proofs.Finding.{payload_shaped, Names, look_names}
use Rattle.descriptors.proofs.looking.named_at.Goals as goal

pub slice_bounds-names_in_list-count : goal.slice_bounds-names_in_list-count
slice_bounds-names_in_list-count c =
    let a = c.args in
    let p = a.payload.now in
    let kind = payload_kind a.reading a.tag p in
    let look = c.look_at in
    let said = subst (λ (l : Look). Names p l (named_in 0 (held_in kind))) (sym look.ensures ∙ c.in-Extension.is) (look_names 0 p kind (payload_shaped p a.reading a.tag)) in
    said.0

pub slice_bounds-names_in_list-start : goal.slice_bounds-names_in_list-start
slice_bounds-names_in_list-start c =
    let a = c.args in
    let p = a.payload.now in
    let kind = payload_kind a.reading a.tag p in
    let look = c.look_at in
    let said = subst (λ (l : Look). Names p l (named_in 0 (held_in kind))) (sym look.ensures ∙ c.in-Extension.is) (look_names 0 p kind (payload_shaped p a.reading a.tag)) in
    said.0

pub returns-in-Skipped : goal.returns-in-Skipped
returns-in-Skipped c stream_type =
    let a = c.args in
    let p = a.payload.now in
    let kind = payload_kind a.reading a.tag p in
    let look = c.look_at in
    elim c.in-Skipped.is [
      | inl e ↦
          let said = subst (λ (l : Look). Names p l (named_in stream_type (held_in kind))) (sym look.ensures ∙ e) (look_names stream_type p kind (payload_shaped p a.reading a.tag)) in
          c.nothing_named.ensures stream_type ∙ sym said
      | inr e ↦
          let said = subst (λ (l : Look). Names p l (named_in stream_type (held_in kind))) (sym look.ensures ∙ e) (look_names stream_type p kind (payload_shaped p a.reading a.tag)) in
          c.nothing_named.ensures stream_type ∙ sym said
    ]

pub returns-in-Hierarchy : goal.returns-in-Hierarchy
returns-in-Hierarchy c stream_type =
    let a = c.args in
    let p = a.payload.now in
    let kind = payload_kind a.reading a.tag p in
    let look = c.look_at in
    let said = subst (λ (l : Look). Names p l (named_in stream_type (held_in kind))) (sym look.ensures ∙ c.in-Hierarchy.is) (look_names stream_type p kind (payload_shaped p a.reading a.tag)) in
    ap (λ (n : ℕ). record { «record» = Hierarchy c.in-Hierarchy.hierarchy; names = n }) c.names_of_hierarchy.ensures ∙ sym said

pub returns-in-Extension : goal.returns-in-Extension
returns-in-Extension c stream_type =
    let a = c.args in
    let p = a.payload.now in
    let kind = payload_kind a.reading a.tag p in
    let look = c.look_at in
    let said = subst (λ (l : Look). Names p l (named_in stream_type (held_in kind))) (sym look.ensures ∙ c.in-Extension.is) (look_names stream_type p kind (payload_shaped p a.reading a.tag)) in
    ap (λ (n : ℕ). record { «record» = Extension c.in-Extension.extension; names = n })
    (c.names_in_list.ensures ∙ ap (λ (l : List ℕ). with_indices 0 (map plain (layers_of l))) (part_to_end p 7))
    ∙ sym said.1
