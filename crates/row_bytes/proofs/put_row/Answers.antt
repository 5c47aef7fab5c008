-- `row_bytes::put_row` meets its contract: which kind of record the row has decides, and behind the bytes of an extension stands its list.
-- Assumes nothing.
use Prim.Native.Nat.{ℕ, ◌+◌, ◌-◌, ◌≤◌}
use mathlib.Core.Path.{◌≡◌, sym, ◌∙◌, ap, subst}
use mathlib.Core.List.{List, map}
use native.Mathlib.Omega.{arith}
use lib.ListN.{length, get_or, take, drop, length-append, length-map}
use Rattle.combinators.specs.Lists.{any}
use Rattle.buffers.proofs.Laws.{laid_as, laid_then, laid_length}
use Rattle.extension.specs.Extension.{extension_head}
use Rattle.entry_rows.specs.Rows.{list_in, layer_too_wide}
use Rattle.entry_rows.proofs.Judged.{extension_fine, list_fine}
use Rattle.entry_rows.proofs.Widths.{row_bounds}
use Rattle.row_bytes.proofs.Rows.{extension_front, extension_row}
use Rattle.row_bytes.proofs.put_row.Goals as goal

pub put_whole-requires : goal.put_whole-requires
put_whole-requires c =
    subst (λ (l : List ℕ). c.args.at + length l ≤ length c.args.out.now) (sym c.hierarchy_bytes-bytes.ensures) c.requires.2

pub returns-then-kind-eq1 : goal.returns-then-kind-eq1
returns-then-kind-eq1 c = laid_as c.hierarchy_bytes-bytes.ensures c.put_whole.ensures

pub put_whole-next-requires : goal.put_whole-next-requires
put_whole-next-requires c =
    let row : List ℕ = c.args.row.now in
    let front : List ℕ = extension_front row c.requires.1 in
    let list : List ℕ = map (λ n. 192 + n) (list_in row) in
    let whole = ap length (extension_row row c.requires.0 c.requires.1 c.if-kind-eq2.true) in
    let room : c.args.at + length front ≤ length c.args.out.now = omega (arith, c.requires.2, whole, length-append front list) in
    subst (λ (l : List ℕ). c.args.at + length l ≤ length c.args.out.now) (sym c.extension_bytes-bytes.ensures) room

pub overflow_cast-end : goal.overflow_cast-end
overflow_cast-end c = omega (arith, (c.shared_slice_known-then-kind-eq2-1.given 15).fits)

pub overflow_add-end : goal.overflow_add-end
overflow_add-end c =
    let row : List ℕ = c.args.row.now in
    let long = c.requires.0 in
    let b = row_bounds extension_head row (extension_fine row c.requires.1 c.if-kind-eq2.true) in
    omega arith

pub slice_bounds-put_numbers-end : goal.slice_bounds-put_numbers-end
slice_bounds-put_numbers-end c =
    let row : List ℕ = c.args.row.now in
    let long = c.requires.0 in
    let b = row_bounds extension_head row (extension_fine row c.requires.1 c.if-kind-eq2.true) in
    omega arith

pub put_numbers-requires : goal.put_numbers-requires
put_numbers-requires c =
    let row : List ℕ = c.args.row.now in
    let two = c.if-kind-eq2.true in
    let front : List ℕ = extension_front row c.requires.1 in
    let list : List ℕ = map (λ n. 192 + n) (list_in row) in
    let made = c.extension_bytes-bytes.ensures in
    let laid = c.put_whole-next.ensures in
    let counted : 16 + get_or row 15 0 - 16 ≡ get_or row 15 0 = omega arith in
    let part = ap (λ (k : ℕ). take k (drop 16 row)) counted in
    let whole = ap length (extension_row row c.requires.0 c.requires.1 two) in (
      omega (arith, c.requires.2, laid.place, laid_length laid, ap length made, whole, length-append front list, length-map (list_in row) (λ n. 192 + n), ap length part),
      ap (any layer_too_wide) part ∙ list_fine row c.requires.1 two,
    )

pub returns-then-kind-eq2 : goal.returns-then-kind-eq2
returns-then-kind-eq2 c =
    let row : List ℕ = c.args.row.now in
    let two = c.if-kind-eq2.true in
    let counted : 16 + get_or row 15 0 - 16 ≡ get_or row 15 0 = omega arith in
    let part = ap (λ (k : ℕ). take k (drop 16 row)) counted in
    laid_as (extension_row row c.requires.0 c.requires.1 two)
    (laid_then (laid_as c.extension_bytes-bytes.ensures c.put_whole-next.ensures) (laid_as (ap (map (λ n. 192 + n)) part) c.put_numbers.ensures))

pub returns : goal.returns
returns c = laid_as c.fieldless_bytes-bytes.ensures c.put_whole-2.ensures
