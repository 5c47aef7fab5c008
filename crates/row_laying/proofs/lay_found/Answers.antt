-- `row_laying::lay_found` meets its contract: only an extension has a list, and it lies within the bytes.
-- Assumes nothing.
use Prim.Native.Nat.{ℕ, ◌-◌}
use mathlib.Core.Logic.{inl, inr}
use mathlib.Core.Path.{◌≡◌, refl, sym, ◌∙◌, ap, subst}
use mathlib.Core.List.{List, ◌++◌}
use native.Mathlib.Omega.{arith}
use lib.ListN.{length, take, drop, length-drop}
use lib.Seq.{length-take-le}
use Rattle.combinators.specs.Padding.{pad_to}
use Rattle.extension.specs.Extension.{no_layer}
use Rattle.records.specs.declared.Record.{Record}
use Rattle.descriptors.specs.Finding.{list_before, Within}
use Rattle.entry_rows.specs.Rows.{tail_of}
use Rattle.row_laying.proofs.Tails.{listed_tail}
use Rattle.row_laying.proofs.lay_found.Goals as goal

pub overflow_sub-start : goal.overflow_sub-start
overflow_sub-start c =
    let a = c.args in
    let within = subst (λ (r : Record). Within a.info.now r a.end) c.in-Extension.is c.requires.1 in
    let inside = within.0 in
    let room = within.1 in
    let few = within.2 in
    omega arith

pub slice_bounds-lay_listed-end : goal.slice_bounds-lay_listed-end
slice_bounds-lay_listed-end c =
    let a = c.args in
    let within = subst (λ (r : Record). Within a.info.now r a.end) c.in-Extension.is c.requires.1 in
    let inside = within.0 in
    let room = within.1 in
    let few = within.2 in
    omega arith

pub lay_listed-requires : goal.lay_listed-requires
lay_listed-requires c =
    let a = c.args in
    let within = subst (λ (r : Record). Within a.info.now r a.end) c.in-Extension.is c.requires.1 in
    let inside = within.0 in
    let room = within.1 in
    let few = within.2 in
    let num : ℕ = c.in-Extension.extension.num_embedded_layers in
    let from : ℕ = a.end - num in
    let same : a.end - from ≡ num = omega arith in
    let long : length (take num (drop from a.info.now)) ≡ num =
    length-take-le num (drop from a.info.now) (omega (arith, length-drop from a.info.now)) in
    (omega arith, rw same (omega arith))

pub returns-in-NoRecord : goal.returns-in-NoRecord
unfolding tail_of
returns-in-NoRecord c =
    let a = c.args in
    elim c.in-NoRecord.is [
      | inl e ↦ c.clear_tail.ensures ∙ sym (ap (λ (r : Record). take 16 a.row.now ++ tail_of r (pad_to 63 no_layer (list_before a.info.now r a.end))) e)
      | inr f ↦ elim f [ inl w ↦ c.clear_tail.ensures ∙ sym (ap (λ (r : Record). take 16 a.row.now ++ tail_of r (pad_to 63 no_layer (list_before a.info.now r a.end))) w.1) | inr e ↦ c.clear_tail.ensures ∙ sym (ap (λ (r : Record). take 16 a.row.now ++ tail_of r (pad_to 63 no_layer (list_before a.info.now r a.end))) e) ]
    ]

pub returns-in-Extension : goal.returns-in-Extension
returns-in-Extension c =
    let a = c.args in
    let within = subst (λ (r : Record). Within a.info.now r a.end) c.in-Extension.is c.requires.1 in
    let inside = within.0 in
    let room = within.1 in
    let few = within.2 in
    c.lay_listed.ensures
    ∙ ap (λ (l : List ℕ). take 16 a.row.now ++ l) (listed_tail c.in-Extension.extension a.info.now a.end _ inside room few refl)
    ∙ sym (ap (λ (r : Record). take 16 a.row.now ++ tail_of r (pad_to 63 no_layer (list_before a.info.now r a.end))) c.in-Extension.is)
