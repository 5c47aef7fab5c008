-- `loop_outlines::wrong_found` meets its contract: which arm was taken says which record it is, and an extension's list lies within the bytes.
-- Assumes nothing.
use Prim.Native.Nat.{ℕ, ◌-◌}
use mathlib.Core.Logic.{inl, inr}
use mathlib.Core.Path.{◌≡◌, sym, ◌∙◌, ap, subst}
use mathlib.Core.List.{List, [], map}
use native.Mathlib.Omega.{arith}
use lib.ListN.{length, take, drop, length-drop, length-map}
use lib.Seq.{length-take-le}
use Rattle.combinators.specs.Padding.{pad_to}
use Rattle.vocabulary.specs.declared.LayerIndex.{LayerIndex}
use Rattle.records.specs.declared.Record.{Record}
use Rattle.records.specs.Records.{plain}
use Rattle.records.proofs.Naming.{padded_list}
use Rattle.extension.specs.Extension.{no_layer, layer_index_of, layers_of}
use Rattle.descriptors.specs.Finding.{list_before, Within}
use Rattle.judging.specs.Judging.{wrong_list, wrong_embedded}
use Rattle.judging.proofs.Meant.{implied_sound}
use Rattle.loop_outlines.proofs.wrong_found.Goals as goal

pub overflow_sub-start : goal.overflow_sub-start
overflow_sub-start c =
    let a = c.args in
    let within = subst (λ (r : Record). Within a.info.now r a.end) c.in-Extension.is c.requires in
    let inside = within.0 in
    let room = within.1 in
    let few = within.2 in
    omega arith

pub slice_bounds-wrong_listed-end : goal.slice_bounds-wrong_listed-end
slice_bounds-wrong_listed-end c =
    let a = c.args in
    let within = subst (λ (r : Record). Within a.info.now r a.end) c.in-Extension.is c.requires in
    let inside = within.0 in
    let room = within.1 in
    let few = within.2 in
    omega arith

pub returns-in-NoRecord : goal.returns-in-NoRecord
returns-in-NoRecord c stream_type =
    let a = c.args in
    elim c.in-NoRecord.is [
      | inl e ↦ sym (ap (λ (r : Record). wrong_embedded stream_type r (pad_to 63 no_layer (list_before a.info.now r a.end))) e)
      | inr e ↦
          sym (implied_sound stream_type (pad_to 63 no_layer []))
          ∙ sym (ap (λ (r : Record). wrong_embedded stream_type r (pad_to 63 no_layer (list_before a.info.now r a.end))) e)
    ]

pub returns-in-Hierarchy : goal.returns-in-Hierarchy
returns-in-Hierarchy c stream_type =
    let a = c.args in
    c.wrong_hierarchy_index.ensures
    ∙ sym (ap (λ (r : Record). wrong_embedded stream_type r (pad_to 63 no_layer (list_before a.info.now r a.end))) c.in-Hierarchy.is)

pub returns-in-Extension : goal.returns-in-Extension
returns-in-Extension c stream_type =
    let a = c.args in
    let within = subst (λ (r : Record). Within a.info.now r a.end) c.in-Extension.is c.requires in
    let inside = within.0 in
    let room = within.1 in
    let few = within.2 in
    let info : List ℕ = a.info.now in
    let own : ℕ = c.in-Extension.extension.layer_index.0 in
    let num : ℕ = c.in-Extension.extension.num_embedded_layers in
    let start : ℕ = a.end - num in
    let same : a.end - start ≡ num = omega arith in
    let layers : List LayerIndex = layers_of (take num (drop start info)) in
    let long : length layers ≡ num =
    length-map (take num (drop start info)) layer_index_of ∙ length-take-le num (drop start info) (omega (arith, length-drop start info)) in
    c.wrong_listed.ensures
    ∙ ap (λ (n : ℕ). wrong_list own (map plain (layers_of (take (a.end - (a.end - n)) (drop (a.end - n) info))))) c.from.ensures
    ∙ ap (λ (n : ℕ). wrong_list own (map plain (layers_of (take n (drop start info))))) same
    ∙ sym (ap (λ (l : List LayerIndex). wrong_list own (map plain l)) (padded_list layers num long))
    ∙ sym (ap (λ (r : Record). wrong_embedded stream_type r (pad_to 63 no_layer (list_before info r a.end))) c.in-Extension.is)
