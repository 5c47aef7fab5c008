-- `descriptors::layers_before` meets its contract: which arm was taken says which record it is, and an extension's list lies within the bytes.
-- Assumes nothing.
use Prim.Native.Nat.{ℕ, ◌-◌}
use mathlib.Core.Path.{◌≡◌, sym, ◌∙◌, ap, subst}
use mathlib.Core.List.{List}
use native.Mathlib.Omega.{arith}
use lib.ListN.{length, take, drop, length-drop}
use lib.Seq.{length-take-le}
use Rattle.combinators.specs.Padding.{pad_to}
use Rattle.records.specs.declared.Record.{Record}
use Rattle.extension.specs.Extension.{no_layer, layers_of}
use Rattle.descriptors.specs.Finding.{list_before, Within}
use Rattle.descriptors.proofs.looking.layers_before.Goals as goal

pub overflow_sub-start : goal.overflow_sub-start
overflow_sub-start c =
    let a = c.args in
    let within = subst (λ (r : Record). Within a.info.now r a.end) c.in-Extension.is c.requires in
    let inside = within.0 in
    let room = within.1 in
    let few = within.2 in
    omega arith

pub slice_bounds-read_embedded-end : goal.slice_bounds-read_embedded-end
slice_bounds-read_embedded-end c =
    let a = c.args in
    let within = subst (λ (r : Record). Within a.info.now r a.end) c.in-Extension.is c.requires in
    let inside = within.0 in
    let room = within.1 in
    let few = within.2 in
    omega arith

pub read_embedded-requires : goal.read_embedded-requires
read_embedded-requires c =
    let a = c.args in
    let within = subst (λ (r : Record). Within a.info.now r a.end) c.in-Extension.is c.requires in
    let inside = within.0 in
    let room = within.1 in
    let few = within.2 in
    let num : ℕ = c.in-Extension.extension.num_embedded_layers in
    let start : ℕ = a.end - num in
    let same : a.end - start ≡ num = omega arith in
    let list : List ℕ = take num (drop start a.info.now) in
    let long : length list ≡ num = length-take-le num (drop start a.info.now) (omega (arith, length-drop start a.info.now)) in
    rw (c.from.ensures, same) (omega arith)

pub returns-in-Extension : goal.returns-in-Extension
returns-in-Extension c =
    let a = c.args in
    let within = subst (λ (r : Record). Within a.info.now r a.end) c.in-Extension.is c.requires in
    let inside = within.0 in
    let room = within.1 in
    let few = within.2 in
    let num : ℕ = c.in-Extension.extension.num_embedded_layers in
    let start : ℕ = a.end - num in
    let same : a.end - start ≡ num = omega arith in
    c.read_embedded.ensures
    ∙ ap (λ (n : ℕ). pad_to 63 no_layer (layers_of (take (a.end - (a.end - n)) (drop (a.end - n) a.info.now)))) c.from.ensures
    ∙ ap (λ (n : ℕ). pad_to 63 no_layer (layers_of (take n (drop start a.info.now)))) same
    ∙ sym (ap (λ (r : Record). pad_to 63 no_layer (list_before a.info.now r a.end)) c.in-Extension.is)
