-- `record_too_wide` meets its contract: which arm was taken says which record it is, and its tables are tested in order.
-- Assumes nothing.
use Prim.Native.Nat.{ℕ}
use mathlib.Core.Path.{◌≡◌, sym, ◌∙◌, ap}
use native.Mathlib.Omega.{arith}
use mathlib.Core.Bool.{true, not}
use mathlib.Core.List.{map}
use lib.ListN.{take}
use Rattle.combinators.specs.Lists.{any}
use Rattle.syntax.specs.Table.{fits}
use Rattle.syntax.proofs.Laws.{fits_fit}
use Rattle.syntax.proofs.Equations.{bounds}
use Rattle.records.specs.declared.Record.{Record}
use Rattle.extension.specs.Extension.{extension_head, extension_fields, layer_table}
use Rattle.syntax.specs.Filled.{too_wide_in}
use Rattle.records.specs.Records.{record_tables}
use Rattle.hierarchy.proofs.Widths.{hierarchy_wide}
use Rattle.extension.proofs.Widths.{extension_fine, extension_wide}
use Rattle.records.proofs.record_too_wide.Goals as goal

pub list_too_wide-requires : goal.list_too_wide-requires
list_too_wide-requires c =
    let x = c.in-Extension.extension in
    let fine : fits extension_head (extension_fields x) ≡ true = sym c.extension_fits.ensures ∙ c.if-extension_fits.true in
    let b = bounds (fits_fit extension_head (extension_fields x) fine) in
    omega arith

pub returns-then-extension_fits : goal.returns-then-extension_fits
returns-then-extension_fits c =
    let layers = c.args.embedded in
    c.list_too_wide.ensures
    ∙ ap (λ (n : ℕ). any too_wide_in (map layer_table (take n layers))) c.from.ensures
    ∙ extension_fine c.in-Extension.extension layers (sym c.extension_fits.ensures ∙ c.if-extension_fits.true)
    ∙ sym (ap (λ (r : Record). any too_wide_in (record_tables r layers)) c.in-Extension.is)

pub returns-in-Hierarchy : goal.returns-in-Hierarchy
returns-in-Hierarchy c =
    let layers = c.args.embedded in
    ap not c.hierarchy_fits.ensures ∙ hierarchy_wide c.in-Hierarchy.hierarchy ∙ sym (ap (λ (r : Record). any too_wide_in (record_tables r layers)) c.in-Hierarchy.is)

pub returns-else-extension_fits : goal.returns-else-extension_fits
returns-else-extension_fits c =
    let layers = c.args.embedded in
    extension_wide c.in-Extension.extension layers (sym c.extension_fits.ensures ∙ c.if-extension_fits.false)
    ∙ sym (ap (λ (r : Record). any too_wide_in (record_tables r layers)) c.in-Extension.is)
