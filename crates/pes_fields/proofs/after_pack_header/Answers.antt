-- `pes_fields::after_pack_header` meets its contract: two fields are one of both their bytes, and the second extension goes to
-- its own function. Assumes nothing.
use borrow.Author.Tests.{eq-eqb, ne_eqb}
use native.Mathlib.Omega.{arith}
use Prim.Native.Nat.{ℕ, ◌+◌, ◌*◌}
use mathlib.Core.Path.{◌≡◌, ap, sym, ◌∙◌}
use mathlib.Core.Bool.{Bool, true, cond}
use mathlib.Core.List.{List, [], ◌∷◌}
use lib.ListN.{drop}
use Rattle.syntax.specs.Named.{named}
use Rattle.combinators.specs.Lists.{part_to_end}
use Rattle.pes_fields.specs.Tables.{extension_flags}
use Rattle.pes_fields.specs.HeaderData.{after, after_buffer, after_pack_header, second_extension_of}
use Rattle.pes_fields.proofs.HeaderDataLaws.{all_as_one, after_fits, after_short, flag_of_counter, flag_of_buffer, flag_of_second}
use Rattle.pes_fields.specs.declared.Extension.TheVariants.{WithoutTref}
use Rattle.pes_fields.proofs.after_pack_header.Goals as goal

-- both fields as one, up to the place that the code works out
skipped : {at : ℕ} (flags : ℕ) (l : List ℕ)
    → at ≡ 2 * named "program_packet_sequence_counter_flag" extension_flags flags + (2 * named "P-STD_buffer_flag" extension_flags flags + 0)
    → after at l (after_buffer flags) ≡ after_pack_header flags l
skipped flags l e =
    ap (λ (n : ℕ). after n l (after_buffer flags)) e
    ∙ sym
    (all_as_one
    (2 * named "program_packet_sequence_counter_flag" extension_flags flags ∷ 2 * named "P-STD_buffer_flag" extension_flags flags ∷ [])
    l
    (after_buffer flags))

pub returns-then-bytes-at : goal.returns-then-bytes-at
returns-then-bytes-at c =
    let l = c.args.bytes.now in
    let flags = c.args.flags in
    sym (after_short (2 * c.from.result + 2 * c.from-2.result) l (after_buffer flags) c.if-bytes-at.true)
    ∙ skipped flags l (omega (arith, flag_of_counter flags, flag_of_buffer flags, c.from.ensures, c.from-2.ensures))

pub returns-then-flags-eq1 : goal.returns-then-flags-eq1
returns-then-flags-eq1 c =
    let l = c.args.bytes.now in
    let flags = c.args.flags in
    let at = 2 * c.from.result + 2 * c.from-2.result in
    c.second_extension.ensures
    ∙ ap second_extension_of (part_to_end l at)
    ∙ ap (λ (t : Bool). cond t (second_extension_of (drop at l)) (WithoutTref true)) (sym (eq-eqb _ 1 (flag_of_second flags ∙ c.if-flags-eq1.true)))
    ∙ sym (after_fits at l (after_buffer flags) c.if-bytes-at.false)
    ∙ skipped flags l (omega (arith, flag_of_counter flags, flag_of_buffer flags, c.from.ensures, c.from-2.ensures))

pub returns : goal.returns
returns c =
    let l = c.args.bytes.now in
    let flags = c.args.flags in
    let at = 2 * c.from.result + 2 * c.from-2.result in
    ap (λ (t : Bool). cond t (second_extension_of (drop at l)) (WithoutTref true))
    (sym (ne_eqb _ 1 (λ e. c.if-flags-eq1.false (sym (flag_of_second flags) ∙ e))))
    ∙ sym (after_fits at l (after_buffer flags) c.if-bytes-at.false)
    ∙ skipped flags l (omega (arith, flag_of_counter flags, flag_of_buffer flags, c.from.ensures, c.from-2.ensures))
