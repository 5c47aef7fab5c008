-- The bytes of a written header, and their numbers.
-- Assumes nothing.
use Prim.Native.Nat.{ℕ, ◌+◌, ◌≤◌, ◌<◌}
use mathlib.Core.Path.{◌≡◌, refl, ap, ap₂}
use mathlib.Core.Bool.{Bool, true, false, cond, not, ◌&&◌, ◌||◌, true≢false}
use mathlib.Core.List.{[], ◌++◌}
use borrow.Author.Tests.{eq-eqb, ne_eqb, eqb-true, leb-false, lt-leb, not-false}
use lib.Dec.{eqb, leb, lit<, lit≤}
use lib.ListN.{length, length-append}
use Rattle.combinators.specs.Bools.{neither_left, neither_right}
use Rattle.clock.specs.Clock.{ticks}
use Rattle.stamps.specs.Tables.{pts_alone, pts_before_dts, dts, tref}
use Rattle.stamps.specs.Stamps.{time_field}
use Rattle.stamps.specs.declared.Times.{Times}
use Rattle.pes_writer.specs.OwnShape.{Narrow}
use Rattle.pes_writer.specs.Writing.{time_fields, tref_head, tref_fields, tref_length, data_fields, pts_dts_flags_of, extension_flag_of, head_of, header_of, too_wide}

-- which fields there are
module _ (pts decoding : ℕ) where
  pub pts_alone_lem : pts ≡ decoding → time_fields pts decoding ≡ time_field pts_alone pts
  pts_alone_lem e = ap (λ (t : Bool). cond t (time_field pts_alone pts) (time_field pts_before_dts pts ++ time_field dts decoding)) (eq-eqb pts decoding e)

  pub pts_and_dts : (pts ≡ decoding → ⊥) → time_fields pts decoding ≡ time_field pts_before_dts pts ++ time_field dts decoding
  pts_and_dts e = ap (λ (t : Bool). cond t (time_field pts_alone pts) (time_field pts_before_dts pts ++ time_field dts decoding)) (ne_eqb pts decoding e)

pub no_tref_fields : {with_tref : Bool} → with_tref ≡ false → (matching : ℕ) → tref_fields with_tref matching ≡ []
no_tref_fields e matching = ap (λ (t : Bool). tref_fields t matching) e

pub tref_fields_lem : {with_tref : Bool} → with_tref ≡ true → (matching : ℕ) → tref_fields with_tref matching ≡ tref_head ++ time_field tref matching
tref_fields_lem e matching = ap (λ (t : Bool). tref_fields t matching) e

-- how many bytes, and how wide the flags
pub times_at_most : (pts decoding : ℕ) → length (time_fields pts decoding) ≤ 10
times_at_most pts decoding = by_test (eqb pts decoding)
  where
    by_test : (t : Bool) → length (cond t (time_field pts_alone pts) (time_field pts_before_dts pts ++ time_field dts decoding)) ≤ 10
    by_test true = lit≤ tt
    by_test false = lit≤ tt

pub tref_length_lem : (with_tref : Bool) (matching : ℕ) → length (tref_fields with_tref matching) ≡ tref_length with_tref
tref_length_lem true matching = refl
tref_length_lem false matching = refl

pub tref_at_most : (with_tref : Bool) → tref_length with_tref ≤ 8
tref_at_most true = lit≤ tt
tref_at_most false = lit≤ tt

module _ (times : Times) (with_tref : Bool) where
  pub data_length : length (data_fields times with_tref) ≡ length (time_fields times.pts times.decoding) + length (tref_fields with_tref times.matching)
  data_length = length-append (time_fields times.pts times.decoding) (tref_fields with_tref times.matching)

  pub header_length : length (header_of times with_tref) ≡ 9 + length (data_fields times with_tref)
  header_length = length-append (head_of times with_tref) (data_fields times with_tref)

pub flags_below : (pts decoding : ℕ) → pts_dts_flags_of pts decoding < 4
flags_below pts decoding = by_test (eqb pts decoding)
  where
    by_test : (t : Bool) → cond t 0b10 0b11 < 4
    by_test true = lit< tt
    by_test false = lit< tt

pub extension_below : (with_tref : Bool) → extension_flag_of with_tref < 2
extension_below true = lit< tt
extension_below false = lit< tt

-- what is not too wide
same_without : (with_tref : Bool) (matching decoding : ℕ) → not with_tref && not (eqb matching decoding) ≡ false → with_tref ≡ false → matching ≡ decoding
same_without true matching decoding e f = absurd (true≢false f)
same_without false matching decoding e f = eqb-true matching decoding (not-false (eqb matching decoding) e)

pub narrow : (times : Times) (with_tref : Bool) → too_wide times with_tref ≡ false → Narrow times with_tref
narrow times with_tref e =
    let choice : Bool = not with_tref && not (eqb times.matching times.decoding) in
    let two : Bool = leb ticks times.pts || leb ticks times.decoding in
    let three : Bool = two || leb ticks times.matching in
    let all_three : three ≡ false = neither_left three choice e in
    let first_two : two ≡ false = neither_left two (leb ticks times.matching) all_three in
    record {
      pts_below = leb-false ticks times.pts (neither_left (leb ticks times.pts) (leb ticks times.decoding) first_two);
      decoding_below = leb-false ticks times.decoding (neither_right (leb ticks times.pts) (leb ticks times.decoding) first_two);
      matching_below = leb-false ticks times.matching (neither_right two (leb ticks times.matching) all_three);
      without_tref = same_without with_tref times.matching times.decoding (neither_right three choice e);
    }

choice_right : (with_tref : Bool) (matching decoding : ℕ) → (with_tref ≡ false → matching ≡ decoding) → not with_tref && not (eqb matching decoding) ≡ false
choice_right true matching decoding same = refl
choice_right false matching decoding same = ap not (eq-eqb matching decoding (same refl))

pub narrow_only : {times : Times} {with_tref : Bool} → Narrow times with_tref → too_wide times with_tref ≡ false
narrow_only {times} {with_tref} n =
    ap₂ ◌||◌
    (ap₂ ◌||◌
    (ap₂ ◌||◌ (lt-leb ticks times.pts n.pts_below) (lt-leb ticks times.decoding n.decoding_below))
    (lt-leb ticks times.matching n.matching_below))
    (choice_right with_tref times.matching times.decoding n.without_tref)
