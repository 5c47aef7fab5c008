-- The header that the writer's definition makes is in its own shape, and no other bytes of that shape have the same times. So the
-- writer's definition does what a writer has to, and nothing else does.
-- Assumes nothing.
use Rattle.std.specs.Prelude.{Err, Ok}
use Prim.Native.Nat.{ℕ, ◌/◌, ◌%◌, ◌^◌, ◌≤◌, ◌<◌}
use mathlib.Core.Path.{◌≡◌, refl, sym, ap, ap₂, subst, ◌∙◌}
use mathlib.Core.Bool.{Bool, true, false, cond}
use mathlib.Core.List.{List, [], ◌++◌}
use native.Mathlib.Omega.{arith}
use borrow.Author.Tests.{eq-eqb, ne_eqb, eqb-true, eqb-false, leb-true, leb-false, le-leb, lt-leb}
use lib.Dec.{eqb, leb, lit<}
use lib.ListN.{length}
use Rattle.buffers.specs.Buffers.{over}
use Rattle.syntax.specs.Table.{Fit, none, at_value, at_reserved, at_fixed}
use Rattle.syntax.specs.Named.{values_by, write_by}
use Rattle.syntax.proofs.NamedLaws.{written_by_meant, written_by_only}
use Rattle.clock.specs.Clock.{ticks, is_before}
use Rattle.vocabulary.specs.declared.refusal.Refusal.TheVariants.{NoRoom, PtsBeforeDts, TooWide}
use Rattle.stamps.specs.Tables as TimeTables
use Rattle.stamps.specs.Tables.{time_bits, pts_alone, pts_before_dts, tref}
use Rattle.stamps.specs.Stamps.{parts_of, time_field}
use Rattle.stamps.specs.declared.Times.{Times}
use Rattle.pes_fields.specs.Tables as Tables
use Rattle.pes_writer.specs.Writing.{time_fields, tref_fields, data_fields, head_given, pts_dts_flags_of, extension_flag_of, head_of, header_of, too_wide, write_of, buffer_of}
use Rattle.pes_writer.proofs.WritingLaws.{times_at_most, tref_length_lem, tref_at_most, data_length, flags_below, extension_below, narrow, narrow_only}
use Rattle.pes_writer.specs.OwnShape.{OwnTimes, alone, both, OwnExtension, with_tref as tref_added, OwnShape, Narrow, Writes, too_wide_lem, no_room, pts_before_dts_lem}
use Rattle.pes_writer.specs.OwnShape as own
use Rattle.pes_writer.specs.Answer.{Written}

-- ---- values that fit their tables

fit_parts : (time : ℕ) → time < ticks → Fit time_bits (values_by time_bits (parts_of time))
fit_parts time h =
    let high : time / 2 ^ 30 < 2 ^ 3 = omega arith in
    let middle : time / 2 ^ 15 % 2 ^ 15 < 2 ^ 15 = omega arith in
    let low : time % 2 ^ 15 < 2 ^ 15 = omega arith in
    at_value high (at_fixed (at_value middle (at_fixed (at_value low (at_fixed none)))))

fit_head : (f e n : ℕ) → f < 4 → e < 2 → n < 256 → Fit Tables.head (values_by Tables.head (head_given f e n))
fit_head f e n hf he hn =
    at_fixed
    (at_value (lit< tt)
    (at_value (lit< tt)
    (at_fixed
    (at_value (lit< tt)
    (at_value (lit< tt)
    (at_value (lit< tt)
    (at_value (lit< tt)
    (at_value (lit< tt)
    (at_value hf
    (at_value (lit< tt)
    (at_value (lit< tt)
    (at_value (lit< tt) (at_value (lit< tt) (at_value (lit< tt) (at_value he (at_value hn none))))))))))))))))

-- ---- the header is in its own shape

times_own : (pts decoding : ℕ) → pts < ticks → decoding < ticks → (t : Bool) → eqb pts decoding ≡ t
    → OwnTimes (cond t 0b10 0b11) (cond t (time_field pts_alone pts) (time_field pts_before_dts pts ++ time_field TimeTables.dts decoding)) pts decoding
times_own pts decoding pts_below decoding_below true e =
    subst (λ (d : ℕ). OwnTimes 0b10 (time_field pts_alone pts) pts d) (eqb-true pts decoding e)
    (alone (written_by_meant (record { whole = refl; fixed_fit = refl }) refl (at_fixed (fit_parts pts pts_below))))
times_own pts decoding pts_below decoding_below false e =
    both
    (written_by_meant (record { whole = refl; fixed_fit = refl }) refl (at_fixed (fit_parts pts pts_below)))
    (written_by_meant (record { whole = refl; fixed_fit = refl }) refl (at_fixed (fit_parts decoding decoding_below)))
    (eqb-false pts decoding e)

extension_own : (times : Times) (with_tref : Bool) → Narrow times with_tref
    → OwnExtension (extension_flag_of with_tref) (tref_fields with_tref times.matching) times.decoding times.matching with_tref
extension_own times true n =
    tref_added
    (written_by_meant (record { whole = refl; fixed_fit = refl }) refl (at_value (lit< tt) (at_value (lit< tt) (at_value (lit< tt) (at_value (lit< tt) (at_reserved (at_value (lit< tt) none)))))))
    (written_by_meant (record { whole = refl; fixed_fit = refl }) refl (at_fixed (at_value (lit< tt) none)))
    (written_by_meant (record { whole = refl; fixed_fit = refl }) refl (at_value (lit< tt) (at_reserved (at_value (lit< tt) none))))
    (written_by_meant (record { whole = refl; fixed_fit = refl }) refl (at_reserved (fit_parts times.matching n.matching_below)))
extension_own times false n =
    subst (λ (m : ℕ). OwnExtension 0 [] times.decoding m false) (sym (n.without_tref refl)) OwnExtension.none

pub own_is : (times : Times) (with_tref : Bool) → Narrow times with_tref → OwnShape (header_of times with_tref) times with_tref
own_is times with_tref n =
    record {
      head = head_of times with_tref;
      times = time_fields times.pts times.decoding;
      extension = tref_fields with_tref times.matching;
      pts_dts_flags = pts_dts_flags_of times.pts times.decoding;
      extension_flag = extension_flag_of with_tref;
      order = refl;
      head_is =
          written_by_meant (record { whole = refl; fixed_fit = refl }) refl
          (fit_head (pts_dts_flags_of times.pts times.decoding) (extension_flag_of with_tref) (length (data_fields times with_tref))
          (flags_below times.pts times.decoding)
          (extension_below with_tref)
          (omega (
            arith,
            data_length times with_tref,
            times_at_most times.pts times.decoding,
            tref_length_lem with_tref times.matching,
            tref_at_most with_tref,
          )));
      times_are = times_own times.pts times.decoding n.pts_below n.decoding_below (eqb times.pts times.decoding) refl;
      extension_is = extension_own times with_tref n;
    }

-- ---- and nothing else is

own_times_only : {f : ℕ} {times : List ℕ} {pts decoding : ℕ} → OwnTimes f times pts decoding → (f ≡ pts_dts_flags_of pts decoding) × (times ≡ time_fields pts decoding)
own_times_only (alone {field} {time} w) =
    let same : eqb time time ≡ true = eq-eqb time time refl in (
      ap (λ (t : Bool). cond t 0b10 0b11) (sym same),
      written_by_only (record { whole = refl; fixed_fit = refl }) w
          ∙ ap (λ (t : Bool). cond t (time_field pts_alone time) (time_field pts_before_dts time ++ time_field TimeTables.dts time)) (sym same),
    )
own_times_only (both {pts_field} {dts_field} {pts} {decoding} v w differ) =
    let apart : eqb pts decoding ≡ false = ne_eqb pts decoding differ in (
      ap (λ (t : Bool). cond t 0b10 0b11) (sym apart),
      ap₂ ◌++◌ (written_by_only (record { whole = refl; fixed_fit = refl }) v) (written_by_only (record { whole = refl; fixed_fit = refl }) w)
          ∙ ap (λ (t : Bool). cond t (time_field pts_alone pts) (time_field pts_before_dts pts ++ time_field TimeTables.dts decoding)) (sym apart),
    )

own_extension_only : {e : ℕ} {extension : List ℕ} {decoding matching : ℕ} {with_tref : Bool} → OwnExtension e extension decoding matching with_tref
    → (e ≡ extension_flag_of with_tref) × (extension ≡ tref_fields with_tref matching)
own_extension_only (OwnExtension.none {time}) = (refl, refl)
own_extension_only (tref_added {flags} {second} {mark} {field} {decoding} {matching} a b c d) = (
  refl,
  ap₂ ◌++◌ (written_by_only (record { whole = refl; fixed_fit = refl }) a)
      (ap₂ ◌++◌ (written_by_only (record { whole = refl; fixed_fit = refl }) b)
      (ap₂ ◌++◌ (written_by_only (record { whole = refl; fixed_fit = refl }) c) (written_by_only (record { whole = refl; fixed_fit = refl }) d))),
)

pub own_only : {bytes : List ℕ} {times : Times} {with_tref : Bool} → OwnShape bytes times with_tref → bytes ≡ header_of times with_tref
own_only {bytes} {times} {with_tref} o =
    let times_same : (o.pts_dts_flags ≡ pts_dts_flags_of times.pts times.decoding) × (o.times ≡ time_fields times.pts times.decoding) = own_times_only o.times_are in
    let extension_same : (o.extension_flag ≡ extension_flag_of with_tref) × (o.extension ≡ tref_fields with_tref times.matching) =
    own_extension_only o.extension_is in
    let fields_same : o.times ++ o.extension ≡ data_fields times with_tref = ap₂ ◌++◌ times_same.1 extension_same.1 in
    o.order
    ∙ ap₂ ◌++◌
    (written_by_only (record { whole = refl; fixed_fit = refl }) o.head_is
    ∙ ap₂ (λ (f e : ℕ). write_by Tables.head (head_given f e (length (o.times ++ o.extension)))) times_same.0 extension_same.0
    ∙ ap (λ (l : List ℕ). write_by Tables.head (head_given (pts_dts_flags_of times.pts times.decoding) (extension_flag_of with_tref) (length l))) fields_same)
    fields_same

-- ---- what the writer has to do

module _ (times : Times) (with_tref : Bool) (out : List ℕ) where
  abbrev header : List ℕ
  header = header_of times with_tref

  -- the answer, test by test
  pub by_tests : (w r b : Bool) → too_wide times with_tref ≡ w → leb (length header) (length out) ≡ r → is_before times.pts times.decoding ≡ b
      → write_of times with_tref (length out) ≡ cond w (Err TooWide) (cond r (cond b (Err PtsBeforeDts) (Ok (length header))) (Err NoRoom))
  by_tests w r b e f g =
      ap (λ (w : Bool). cond w (Err TooWide) (cond (leb (length header) (length out)) (cond (is_before times.pts times.decoding) (Err PtsBeforeDts) (Ok (length header))) (Err NoRoom))) e
      ∙ ap₂ (λ (r b : Bool). cond w (Err TooWide) (cond r (cond b (Err PtsBeforeDts) (Ok (length header))) (Err NoRoom))) f g

  -- both parts of what is promised
  abbrev Promised : Written → List ℕ → Type 0
  Promised r exit = (r ≡ write_of times with_tref (length out)) × (exit ≡ buffer_of r header out)

  wide : (t : Bool) → too_wide times with_tref ≡ t → (Narrow times with_tref → ⊥) → too_wide times with_tref ≡ true
  wide true e not_narrow = e
  wide false e not_narrow = absurd (not_narrow (narrow times with_tref e))

  pub writes_only : {r : Written} {exit : List ℕ} → Writes times with_tref out r exit → Promised r exit
  writes_only (too_wide_lem not_narrow) =
      (sym (by_tests true (leb (length header) (length out)) (is_before times.pts times.decoding) (wide (too_wide times with_tref) refl not_narrow) refl refl), refl)
  writes_only (no_room n o short) =
      (sym (by_tests false false (is_before times.pts times.decoding) (narrow_only n) (lt-leb (length header) (length out) (rw (own_only o) at short)) refl), refl)
  writes_only (pts_before_dts_lem n o room b) =
      (sym (by_tests false true true (narrow_only n) (le-leb (length header) (length out) (rw (own_only o) at room)) b), refl)
  writes_only (own.written {header = h} n o room b) = (
    ap (λ (l : List ℕ). Ok (length l)) (own_only o)
        ∙ sym (by_tests false true false (narrow_only n) (le-leb (length header) (length out) (rw (own_only o) at room)) b),
    ap (λ (l : List ℕ). over l out) (own_only o),
  )

  record Some : Type 0 where
    answer : Written
    exit : List ℕ
    is : Writes times with_tref out answer exit

  by_before : Narrow times with_tref → length header ≤ length out → (b : Bool) → is_before times.pts times.decoding ≡ b → Some
  by_before n room true e = record { answer = _; exit = _; is = pts_before_dts_lem n (own_is times with_tref n) room e }
  by_before n room false e = record { answer = _; exit = _; is = own.written n (own_is times with_tref n) room e }

  by_room : Narrow times with_tref → (r : Bool) → leb (length header) (length out) ≡ r → Some
  by_room n true e = by_before n (leb-true (length header) (length out) e) (is_before times.pts times.decoding) refl
  by_room n false e =
      record { answer = _; exit = _; is = no_room n (own_is times with_tref n) (leb-false (length header) (length out) e) }

  by_width : (w : Bool) → too_wide times with_tref ≡ w → Some
  by_width true e =
      record {
        answer = _;
        exit = _;
        is = too_wide_lem (λ n. let z : true ≡ false = sym e ∙ narrow_only n in let one : ◌≡◌ {A = ℕ} 0 1 = cc in omega arith);
      }
  by_width false e = by_room (narrow times with_tref e) (leb (length header) (length out)) refl

  pub writes_is : Writes times with_tref out (write_of times with_tref (length out)) (buffer_of (write_of times with_tref (length out)) header out)
  writes_is =
      let some : Some = by_width (too_wide times with_tref) refl in
      let promised : Promised some.answer some.exit = writes_only some.is in
      subst (λ (r : Written). Writes times with_tref out r (buffer_of r header out)) promised.0
      (subst (Writes times with_tref out some.answer) promised.1 some.is)
