-- `row_taking::entry_in` meets its contract: which kind of record the row has decides.
-- Assumes nothing.
use mathlib.Core.Path.{◌≡◌, ◌∙◌, ap}
use lib.ListN.{get_or, take, length-take, length-drop}
use Rattle.entry_rows.specs.Rows.{layer_too_wide, layer_of}
use Rattle.entry_rows.proofs.Laws.{hierarchy_entry, extension_entry, no_record_entry, implied_entry}
use Rattle.entry_rows.proofs.Judged.{type_bound, kind_fine, hierarchy_fine, extension_fine, list_fine}
use native.Mathlib.Omega.{arith}
use Prim.Native.Nat.{ℕ}
use mathlib.Core.List.{List, map}
use Rattle.combinators.specs.Lists.{any, part_to_end}
use Rattle.combinators.specs.Padding.{pad_to}
use Rattle.extension.specs.Extension.{extension_head, no_layer}
use Rattle.entry_rows.proofs.Widths.{row_bounds}
use Rattle.row_taking.proofs.entry_in.Goals as goal

pub overflow_cast-stream_type : goal.overflow_cast-stream_type
overflow_cast-stream_type c = record { fits = type_bound _ c.requires.1 }

pub hierarchy_in-hierarchy-requires : goal.hierarchy_in-hierarchy-requires
hierarchy_in-hierarchy-requires c = (c.requires.0, hierarchy_fine _ c.requires.1 c.if-kind-eq1.true)

pub returns-then-kind-eq1 : goal.returns-then-kind-eq1
returns-then-kind-eq1 c = rw (c.hierarchy_in-hierarchy.ensures, c.no_layers.ensures) (hierarchy_entry c.args.row.now c.if-kind-eq1.true)

pub extension_in-extension-requires : goal.extension_in-extension-requires
extension_in-extension-requires c = (c.requires.0, extension_fine _ c.requires.1 c.if-kind-eq2.true)

pub overflow_cast-row : goal.overflow_cast-row
overflow_cast-row c = omega (arith, (c.shared_slice_known-then-kind-eq2-1.given 15).fits)

pub list_in-embedded-requires : goal.list_in-embedded-requires
list_in-embedded-requires c =
    let row = c.args.row.now in
    let fine = c.requires.1 in
    let two = c.if-kind-eq2.true in
    let b = row_bounds extension_head row (extension_fine row fine two) in (
      omega arith,
      simp (length-take, length-drop) (omega arith),
      ap (λ (l : List ℕ). any layer_too_wide (take (get_or row 15 0) l)) (part_to_end row 16) ∙ list_fine row fine two,
    )

pub returns-then-kind-eq2 : goal.returns-then-kind-eq2
returns-then-kind-eq2 c =
    let row = c.args.row.now in
    let layers = c.list_in-embedded.ensures ∙ ap (λ (l : List ℕ). pad_to 63 no_layer (map layer_of (take (get_or row 15 0) l))) (part_to_end row 16) in
    rw (c.extension_in-extension.ensures, layers) (extension_entry row c.if-kind-eq2.true)

pub returns-then-kind-eq3 : goal.returns-then-kind-eq3
returns-then-kind-eq3 c =
    let row = c.args.row.now in
    rw c.no_layers-then-kind-eq3.ensures (implied_entry row c.if-kind-eq3.true)

pub returns : goal.returns
returns c =
    let row = c.args.row.now in
    let none : get_or row 2 0 ≡ 0 =
    omega (arith, kind_fine row c.requires.1, c.if-kind-eq1.false, c.if-kind-eq2.false, c.if-kind-eq3.false) in
    rw c.no_layers-2.ensures (no_record_entry row none)
