-- `pes_fields::after_private_data` meets its contract: the pack header's length byte and as many bytes are one field.
-- Assumes nothing.
use borrow.Author.Tests.{eq-eqb, ne_eqb}
use native.Mathlib.Omega.{arith}
use Prim.Native.Nat.{ℕ, ◌+◌, ◌/◌, ◌%◌}
use mathlib.Core.Path.{◌≡◌, refl, ap, sym, ◌∙◌}
use mathlib.Core.Bool.{Bool, cond}
use mathlib.Core.List.{List}
use lib.ListN.{get_or}
use Rattle.combinators.specs.Lists.{part_to_end}
use Rattle.pes_fields.specs.HeaderData.{after, after_pack_header, after_private_data}
use Rattle.pes_fields.proofs.HeaderDataLaws.{after_after, after_fits, after_short}
use Rattle.pes_fields.proofs.after_private_data.Goals as goal

module _ (flags : ℕ) (l : List ℕ) where
  no-pack-header : flags / 64 % 2 ≡ 0 → after_pack_header flags l ≡ after_private_data flags l
  no-pack-header e =
      ap (λ (t : Bool). cond t (after 1 l (λ rest. after (get_or l 0 0) rest (after_pack_header flags))) (after_pack_header flags l))
      (sym (ne_eqb _ 1 (λ (one : flags / 64 % 2 ≡ 1). omega arith)))

  -- the length byte and the pack header as one field, up to the place that the code works out
  pack-header : {at : ℕ} → (flags / 64 % 2 ≡ 0 → ⊥) → at ≡ 1 + get_or l 0 0 → after at l (after_pack_header flags) ≡ after_private_data flags l
  pack-header flagged e =
      ap (λ (n : ℕ). after n l (after_pack_header flags)) e
      ∙ sym (after_after 1 (get_or l 0 0) l (after_pack_header flags))
      ∙ ap (λ (t : Bool). cond t (after 1 l (λ rest. after (get_or l 0 0) rest (after_pack_header flags))) (after_pack_header flags l))
      (sym (eq-eqb (flags / 64 % 2) 1 (omega arith)))

pub returns-then-flags-eq0 : goal.returns-then-flags-eq0
returns-then-flags-eq0 c =
    c.after_pack_header.ensures ∙ no-pack-header c.args.flags c.args.bytes.now c.if-flags-eq0.true

pub returns-then-bytes-lt1 : goal.returns-then-bytes-lt1
returns-then-bytes-lt1 c =
    let l = c.args.bytes.now in
    sym (after_short (1 + get_or l 0 0) l (after_pack_header c.args.flags) (omega (arith, c.if-bytes-lt1.true)))
    ∙ pack-header c.args.flags l {at = 1 + get_or l 0 0} c.if-flags-eq0.false refl

pub overflow_add-at : goal.overflow_add-at
overflow_add-at c =
    omega (arith, c.from-at.ensures, (c.shared_slice_known-1.given 0).fits)

pub returns-then-bytes-at : goal.returns-then-bytes-at
returns-then-bytes-at c =
    let l = c.args.bytes.now in
    let at = 1 + c.from-at.result in
    sym (after_short at l (after_pack_header c.args.flags) c.if-bytes-at.true)
    ∙ pack-header c.args.flags l c.if-flags-eq0.false (ap (λ (n : ℕ). 1 + n) c.from-at.ensures)

pub returns : goal.returns
returns c =
    let l = c.args.bytes.now in
    let at = 1 + c.from-at.result in
    c.after_pack_header-2.ensures
    ∙ ap (after_pack_header c.args.flags) (part_to_end l at)
    ∙ sym (after_fits at l (after_pack_header c.args.flags) c.if-bytes-at.false)
    ∙ pack-header c.args.flags l c.if-flags-eq0.false (ap (λ (n : ℕ). 1 + n) c.from-at.ensures)
