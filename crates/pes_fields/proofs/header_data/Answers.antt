-- `pes_fields::header_data` meets its contract: the fields before the extension are one of all their bytes, and the extension
-- goes to its own function. Assumes nothing.
use borrow.Author.Tests.{eq-eqb, ne_eqb}
use native.Mathlib.Omega.{arith}
use Prim.Native.Nat.{ℕ, ◌%◌}
use mathlib.Core.Path.{◌≡◌, ap, sym, ◌∙◌}
use mathlib.Core.Bool.{Bool, true, cond}
use mathlib.Core.List.{List}
use lib.ListN.{drop}
use Rattle.combinators.specs.Lists.{part_to_end}
use Rattle.pes_fields.specs.Tables.{packet_flags}
use Rattle.pes_fields.specs.HeaderData.{sum, flags_of, field_bytes, after, extension_of, after_crc, header_data_of}
use Rattle.pes_fields.proofs.HeaderDataLaws.{all_as_one, after_fits, after_short}
use Rattle.pes_fields.specs.declared.Extension.TheVariants.{WithoutTref}
use Rattle.pes_fields.proofs.header_data.Goals as goal

-- the fields before the extension as one, up to the place that the code works out
skipped : {at : ℕ} (flags : ℕ) (l : List ℕ) → at ≡ sum (field_bytes (flags_of packet_flags flags))
    → after at l (after_crc (flags_of packet_flags flags)) ≡ header_data_of (flags_of packet_flags flags) l
skipped flags l e =
    ap (λ (n : ℕ). after n l (after_crc (flags_of packet_flags flags))) e
    ∙ sym (all_as_one (field_bytes (flags_of packet_flags flags)) l (after_crc (flags_of packet_flags flags)))

-- the extension's flag is the last bit of its byte
extension-flag : (flags : ℕ) → (flags_of packet_flags flags).extension ≡ flags % 2
extension-flag flags = omega arith

pub returns-then-bytes-at : goal.returns-then-bytes-at
returns-then-bytes-at c =
    let l = c.args.bytes.now in
    let flags = c.args.flags in
    sym (after_short c.before_extension-at.result l (after_crc (flags_of packet_flags flags)) c.if-bytes-at.true)
    ∙ skipped flags l c.before_extension-at.ensures

pub returns-then-flags-eq1 : goal.returns-then-flags-eq1
returns-then-flags-eq1 c =
    let l = c.args.bytes.now in
    let flags = c.args.flags in
    let at = c.before_extension-at.result in
    c.extension_of.ensures
    ∙ ap extension_of (part_to_end l at)
    ∙ ap (λ (t : Bool). cond t (extension_of (drop at l)) (WithoutTref true)) (sym (eq-eqb _ 1 (extension-flag flags ∙ c.if-flags-eq1.true)))
    ∙ sym (after_fits at l (after_crc (flags_of packet_flags flags)) c.if-bytes-at.false)
    ∙ skipped flags l c.before_extension-at.ensures

pub returns : goal.returns
returns c =
    let l = c.args.bytes.now in
    let flags = c.args.flags in
    let at = c.before_extension-at.result in
    ap (λ (t : Bool). cond t (extension_of (drop at l)) (WithoutTref true))
    (sym (ne_eqb _ 1 (λ e. c.if-flags-eq1.false (sym (extension-flag flags) ∙ e))))
    ∙ sym (after_fits at l (after_crc (flags_of packet_flags flags)) c.if-bytes-at.false)
    ∙ skipped flags l c.before_extension-at.ensures
