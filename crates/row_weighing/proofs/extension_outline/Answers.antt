-- `row_weighing::extension_outline` meets its contract: the record of the row, and what is judged of its list where it stands.
-- Assumes nothing.
use Prim.Native.Nat.{ℕ, ◌+◌, ◌-◌, ◌≤◌}
use mathlib.Core.Path.{◌≡◌, ◌∙◌, ap, ap₂}
use mathlib.Core.Bool.{Bool, true, false}
use mathlib.Core.List.{List}
use native.Mathlib.Omega.{arith}
use lib.ListN.{get_or, take, drop}
use Rattle.extension.specs.declared.ExtensionRecord.{ExtensionRecord}
use Rattle.extension.specs.Extension.{extension_head}
use Rattle.records.specs.declared.Record.TheVariants.{Extension}
use Rattle.judging.specs.Judging.{wrong_list}
use Rattle.loop_entries.specs.declared.Entry.{Entry}
use Rattle.loop_outlines.specs.Outlines.{outline_of}
use Rattle.loop_writer.specs.Verdict.{stream_for}
use Rattle.entry_rows.proofs.Laws.{extension_entry}
use Rattle.entry_rows.proofs.Judged.{type_bound, extension_fine}
use Rattle.entry_rows.proofs.Widths.{row_bounds}
use Rattle.row_weighing.proofs.Numbers.{listed_wrong}
use Rattle.row_weighing.proofs.extension_outline.Goals as goal

pub extension_in-extension-requires : goal.extension_in-extension-requires
extension_in-extension-requires c = (c.requires.0, extension_fine _ c.requires.1 c.requires.2)

pub overflow_cast-end : goal.overflow_cast-end
overflow_cast-end c = omega (arith, (c.shared_slice_known-2-1.given 15).fits)

pub overflow_add-end : goal.overflow_add-end
overflow_add-end c =
    let b = row_bounds extension_head c.args.row.now (extension_fine _ c.requires.1 c.requires.2) in
    omega arith

pub slice_bounds-wrong_numbers-end : goal.slice_bounds-wrong_numbers-end
slice_bounds-wrong_numbers-end c =
    let long = c.requires.0 in
    let b = row_bounds extension_head c.args.row.now (extension_fine _ c.requires.1 c.requires.2) in
    omega arith

pub wrong_numbers-wrong_embedded-requires : goal.wrong_numbers-wrong_embedded-requires
wrong_numbers-wrong_embedded-requires c =
    let b = row_bounds extension_head c.args.row.now (extension_fine _ c.requires.1 c.requires.2) in
    omega arith

pub overflow_cast-result : goal.overflow_cast-result
overflow_cast-result c = record { fits = type_bound _ c.requires.1 }

pub returns : goal.returns
returns c =
    let row : List ℕ = c.args.row.now in
    let b = row_bounds extension_head row (extension_fine row c.requires.1 c.requires.2) in
    let few : get_or row 15 0 ≤ 63 = omega arith in
    let counted : 16 + get_or row 15 0 - 16 ≡ get_or row 15 0 = omega arith in
    ap₂ (λ (x : ExtensionRecord) (w : Bool). record { fits = true; stream_type = get_or row 0 0; pid = get_or row 1 0; wrong_length = false; second_record = false; «record» = Extension x; wrong_embedded = w })
    c.extension_in-extension.ensures
    (c.wrong_numbers-wrong_embedded.ensures ∙ ap (λ (n : ℕ). wrong_list (get_or row 8 0) (take n (drop 16 row))) counted ∙ listed_wrong row c.requires.0 few (get_or row 0 0))
    ∙ ap (λ (e : Entry). outline_of (stream_for e)) (extension_entry row c.requires.2)
