-- The reader's definition answers what a header means, and nothing else does: for any bytes there is exactly one answer.
-- Assumes nothing.
use Rattle.std.specs.Prelude.{Err, Ok}
use Prim.Native.Nat.{ℕ, ◌≤◌}
use mathlib.Core.Path.{◌≡◌, refl, sym, ap, ap₂, subst, ◌∙◌}
use mathlib.Core.Bool.{Bool, true, false, cond}
use mathlib.Core.List.{List, ◌++◌}
use native.Mathlib.Omega.{arith}
use borrow.Author.Tests.{leb-true, leb-false, le-leb, lt-leb}
use lib.Dec.{leb}
use Rattle.syntax.specs.Table.{number}
use Rattle.syntax.specs.Named.{named}
use Rattle.clock.specs.Clock.{is_before}
use Rattle.vocabulary.specs.declared.refusal.Refusal.TheVariants.{NotVideoHeader, NoPts, WrongMarker, PtsBeforeDts}
use Rattle.stamps.specs.Stamps.{stamps_of}
use Rattle.stamps.specs.declared.Stamps.{Stamps}
use Rattle.pes_fields.specs.Tables.{head}
use Rattle.pes_fields.specs.HeaderData.{Flags, flags_of, header_data_of}
use Rattle.pes_fields.specs.Meaning.{HeaderData}
use Rattle.pes_fields.proofs.FieldLaws.{header_data_only, header_data_fits, stamps_in_fields}
use Rattle.pes_fields.proofs.WalkLaws.{OneBit, Fields, header_data_is}
use Rattle.pes_fields.specs.declared.Extension.{Extension}
use Rattle.pes_fields.specs.declared.Extension.TheVariants.{DoesNotFit, WithoutTref, WithTref}
use Rattle.pes_reader.specs.Reading.{is_video_header, data_of, end_of, judged, marks_of, match_of, sent_of, header_of, said_by, fields_of, video_header_of, read_of}
use Rattle.pes_reader.specs.Meaning.{VideoHeader, LaidOut, Answers, not_video_header, no_pts, fields_do_not_fit, wrong_marker, pts_before_dts_lem, says}
use Rattle.pes_reader.proofs.VideoLaws.{video_is, video_only}
use Rattle.pes_reader.specs.Answer.{Answer}

-- the case of a header whose fields fit
judged_header : (end : ℕ) (stamps : Stamps) (given : Extension) → (given ≡ DoesNotFit → ⊥)
    → said_by end stamps given ≡ judged (marks_of stamps given) (header_of stamps (match_of stamps given) (sent_of given) end)
judged_header end stamps DoesNotFit fits = absurd (fits refl)
judged_header end stamps (WithoutTref marked) fits = refl
judged_header end stamps (WithTref tref) fits = refl

module _ (l : List ℕ) where
  abbrev pts_dts_flags : ℕ
  pts_dts_flags = named "PTS_DTS_flags" head (number 9 l)

  abbrev flags : Flags
  flags = flags_of head (number 9 l)

  one_bit : OneBit flags
  one_bit =
      record {
        escr = omega arith;
        es_rate = omega arith;
        trick_mode = omega arith;
        copy_info = omega arith;
        crc = omega arith;
        extension = omega arith;
      }

  -- the answer, test by test
  by_video : (t : Bool) → is_video_header l ≡ t → read_of l ≡ cond t (video_header_of l) (Err NotVideoHeader)
  by_video t e = ap (λ (t : Bool). cond t (video_header_of l) (Err NotVideoHeader)) e

  by_flags : (t : Bool) → leb 0b10 pts_dts_flags ≡ t → video_header_of l ≡ cond t (fields_of (end_of l) flags (data_of l)) (Err NoPts)
  by_flags t e = ap (λ (t : Bool). cond t (fields_of (end_of l) flags (data_of l)) (Err NoPts)) e

  a_header : VideoHeader l → 0b10 ≤ pts_dts_flags → read_of l ≡ fields_of (end_of l) flags (data_of l)
  a_header video flagged = by_video true (video_only l video) ∙ by_flags true (le-leb 0b10 pts_dts_flags flagged)

  module _ {stamps : Stamps} {given : Extension} (laid : LaidOut l stamps given) where
    pub laid_answer : read_of l ≡ judged (marks_of stamps given) (header_of stamps (match_of stamps given) (sent_of given) (end_of l))
    laid_answer =
        a_header laid.video laid.flagged
        ∙ ap₂ (said_by (end_of l)) (sym (laid.stamps_are ∙ stamps_in_fields laid.fields)) (header_data_only laid.fields)
        ∙ judged_header (end_of l) stamps given (header_data_fits laid.fields)

    judged_by : (m : Bool) → marks_of stamps given ≡ m → (b : Bool) → is_before stamps.pts stamps.decoding ≡ b
        → read_of l ≡ cond m (cond b (Err PtsBeforeDts) (Ok (header_of stamps (match_of stamps given) (sent_of given) (end_of l)))) (Err WrongMarker)
    judged_by m e b f =
        laid_answer
        ∙ ap₂ (λ (m b : Bool). cond m (cond b (Err PtsBeforeDts) (Ok (header_of stamps (match_of stamps given) (sent_of given) (end_of l)))) (Err WrongMarker)) e f

  no_fields : ((pts dts : List ℕ) (given : Extension) → HeaderData flags (data_of l) pts dts given → ⊥) → (x : Extension)
      → header_data_of flags (data_of l) ≡ x → header_data_of flags (data_of l) ≡ DoesNotFit
  no_fields none DoesNotFit e = e
  no_fields none (WithoutTref marked) e =
      let f : Fields flags (data_of l) (WithoutTref marked) = header_data_is flags one_bit (data_of l) e (λ p. let z : ◌≡◌ {A = ℕ} 0 1 = cc in omega arith) in
      absurd (none f.pts f.dts (WithoutTref marked) f.laid)
  no_fields none (WithTref tref) e =
      let f : Fields flags (data_of l) (WithTref tref) = header_data_is flags one_bit (data_of l) e (λ p. let z : ◌≡◌ {A = ℕ} 0 1 = cc in omega arith) in
      absurd (none f.pts f.dts (WithTref tref) f.laid)

  -- nothing else is an answer
  pub answers_only : {answer : Answer} → Answers l answer → answer ≡ read_of l
  answers_only (not_video_header none) = sym (refused (is_video_header l) refl)
    where
      refused : (t : Bool) → is_video_header l ≡ t → read_of l ≡ Err NotVideoHeader
      refused true e = absurd (none (video_is l e))
      refused false e = by_video false e
  answers_only (no_pts video below) = sym (by_video true (video_only l video) ∙ by_flags false (lt-leb 0b10 pts_dts_flags below))
  answers_only (fields_do_not_fit video flagged none) =
      sym (a_header video flagged ∙ ap (said_by (end_of l) (stamps_of pts_dts_flags (data_of l))) (no_fields none (header_data_of flags (data_of l)) refl))
  answers_only (wrong_marker {stamps} laid e) = sym (judged_by laid false e (is_before stamps.pts stamps.decoding) refl)
  answers_only (pts_before_dts_lem laid e f) = sym (judged_by laid true e true f)
  answers_only (says laid e f) = sym (judged_by laid true e false f)

  -- there is an answer
  record Some : Type 0 where
    answer : Answer
    is : Answers l answer

  by_before : {stamps : Stamps} {given : Extension} → LaidOut l stamps given → marks_of stamps given ≡ true
      → (b : Bool) → is_before stamps.pts stamps.decoding ≡ b → Some
  by_before laid e true f = record { answer = _; is = pts_before_dts_lem laid e f }
  by_before laid e false f = record { answer = _; is = says laid e f }

  by_marks : {stamps : Stamps} {given : Extension} → LaidOut l stamps given → (m : Bool) → marks_of stamps given ≡ m → Some
  by_marks {stamps} laid true e = by_before laid e (is_before stamps.pts stamps.decoding) refl
  by_marks laid false e = record { answer = _; is = wrong_marker laid e }

  of_fields : VideoHeader l → 0b10 ≤ pts_dts_flags → {given : Extension} → Fields flags (data_of l) given → Some
  of_fields video flagged {given} f =
      let stamps : Stamps = stamps_of pts_dts_flags (f.pts ++ f.dts) in
      let laid : LaidOut l stamps given =
      record { video = video; flagged = flagged; pts = f.pts; dts = f.dts; fields = f.laid; stamps_are = refl } in
      by_marks laid (marks_of stamps given) refl

  by_extension : VideoHeader l → 0b10 ≤ pts_dts_flags → (x : Extension) → header_data_of flags (data_of l) ≡ x → Some
  by_extension video flagged DoesNotFit e =
      record {
        answer = _;
        is = fields_do_not_fit video flagged (λ pts dts given h. header_data_fits h (sym (header_data_only h) ∙ e));
      }
  by_extension video flagged (WithoutTref marked) e =
      of_fields video flagged (header_data_is flags one_bit (data_of l) e (λ p. let z : ◌≡◌ {A = ℕ} 0 1 = cc in omega arith))
  by_extension video flagged (WithTref tref) e =
      of_fields video flagged (header_data_is flags one_bit (data_of l) e (λ p. let z : ◌≡◌ {A = ℕ} 0 1 = cc in omega arith))

  by_pts : VideoHeader l → (t : Bool) → leb 0b10 pts_dts_flags ≡ t → Some
  by_pts video true e = by_extension video (leb-true 0b10 pts_dts_flags e) (header_data_of flags (data_of l)) refl
  by_pts video false e = record { answer = _; is = no_pts video (leb-false 0b10 pts_dts_flags e) }

  by_head : (t : Bool) → is_video_header l ≡ t → Some
  by_head true e = by_pts (video_is l e) (leb 0b10 pts_dts_flags) refl
  by_head false e =
      record { answer = _; is = not_video_header (λ video. let z : true ≡ false = sym (video_only l video) ∙ e in let n : ◌≡◌ {A = ℕ} 0 1 = cc in omega arith) }

  pub answers_is : Answers l (read_of l)
  answers_is = let some : Some = by_head (is_video_header l) refl in subst (Answers l) (answers_only some.is) some.is
