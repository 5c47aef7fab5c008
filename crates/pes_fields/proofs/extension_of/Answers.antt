-- `pes_fields::extension_of` meets its contract: the byte of flags and the private data are one field.
-- Assumes nothing.
use native.Mathlib.Omega.{arith}
use Prim.Native.Nat.{ℕ, ◌+◌, ◌*◌, ◌/◌, ◌<◌}
use mathlib.Core.Path.{◌≡◌, refl, ap, sym, ◌∙◌}
use mathlib.Core.List.{List}
use lib.ListN.{get_or}
use Rattle.syntax.specs.Named.{named}
use Rattle.combinators.specs.Lists.{part_to_end}
use Rattle.pes_fields.specs.Tables.{extension_flags}
use Rattle.pes_fields.specs.HeaderData.{after, after_private_data, extension_of}
use Rattle.pes_fields.proofs.HeaderDataLaws.{after_after, after_fits, after_short, flag_of_private_data}
use Rattle.pes_fields.proofs.extension_of.Goals as goal

-- the byte of flags and the private data as one field, up to the place that the code works out
private-data : (l : List ℕ) (at : ℕ) → get_or l 0 0 < 256 → at ≡ 1 + 16 * (get_or l 0 0 / 128) → after at l (after_private_data (get_or l 0 0)) ≡ extension_of l
private-data l at byte e =
    ap (λ (n : ℕ). after n l (after_private_data (get_or l 0 0))) (e ∙ ap (λ (n : ℕ). 1 + 16 * n) (sym (flag_of_private_data (get_or l 0 0) byte)))
    ∙ sym (after_after 1 (16 * named "PES_private_data_flag" extension_flags (get_or l 0 0)) l (after_private_data (get_or l 0 0)))

pub returns-then-bytes-lt1 : goal.returns-then-bytes-lt1
returns-then-bytes-lt1 c =
    let l = c.args.bytes.now in
    let at = 1 + 16 * (get_or l 0 0 / 128) in
    sym (after_short at l (after_private_data (get_or l 0 0)) (omega (arith, c.if-bytes-lt1.true)))
    ∙ private-data l at (c.shared_slice_known-1.given 0).fits refl

pub overflow_mul-at : goal.overflow_mul-at
overflow_mul-at c =
    omega (arith, c.from.ensures, (c.shared_slice_known-1.given 0).fits)

pub overflow_add-at : goal.overflow_add-at
overflow_add-at c =
    omega (arith, c.from.ensures, (c.shared_slice_known-1.given 0).fits)

pub returns-then-bytes-at : goal.returns-then-bytes-at
returns-then-bytes-at c =
    let l = c.args.bytes.now in
    let at = 1 + 16 * c.from.result in
    sym (after_short at l (after_private_data (get_or l 0 0)) c.if-bytes-at.true)
    ∙ private-data l at (c.shared_slice_known-1.given 0).fits (ap (λ (n : ℕ). 1 + 16 * n) c.from.ensures)

pub returns : goal.returns
returns c =
    let l = c.args.bytes.now in
    let at = 1 + 16 * c.from.result in
    c.after_private_data.ensures
    ∙ ap (after_private_data (get_or l 0 0)) (part_to_end l at)
    ∙ sym (after_fits at l (after_private_data (get_or l 0 0)) c.if-bytes-at.false)
    ∙ private-data l at (c.shared_slice_known-1.given 0).fits (ap (λ (n : ℕ). 1 + 16 * n) c.from.ensures)
