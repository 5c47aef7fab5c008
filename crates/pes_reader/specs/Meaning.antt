-- What a video PES header is and what its reader has to answer, in the words of Table 2-21 and of document 01. What the header data are,
-- field by field, is said in the crate `pes_fields`. The laws that join this to the computed answer are in proofs/MeaningLaws.antt.
-- In order: refusal 20; a header whose fields fit; the answer.
-- Assumes nothing.
use Rattle.std.specs.Prelude.{ℕ, ◌+◌, ◌≤◌, ◌<◌, ◌≡◌, true, false, List, ◌++◌, length, Err, Ok}
use Rattle.syntax.specs.Table.{number, fixed_hold}
use Rattle.syntax.specs.Named.{named}
use Rattle.clock.specs.Clock.{is_before}
use Rattle.vocabulary.specs.declared.refusal.Refusal.TheVariants.{NotVideoHeader, NoPts, FieldsDoNotFit, WrongMarker, PtsBeforeDts}
use Rattle.stamps.specs.Stamps.{stamps_of}
use Rattle.stamps.specs.declared.Stamps.{Stamps}
use Rattle.pes_fields.specs.Tables.{head}
use Rattle.pes_fields.specs.HeaderData.{flags_of}
use Rattle.pes_fields.specs.Meaning.{HeaderData}
use Rattle.pes_fields.specs.declared.Extension.{Extension}
use Rattle.pes_reader.specs.Reading.{data_of, end_of, marks_of, match_of, sent_of, header_of}
use Rattle.pes_reader.specs.Answer.{Answer}

-- A video PES header, as refusal 20 asks: nine bytes with the prefix 00 00 01 and the '10' that the head's table fixes, a stream_id of
-- 0xE0 to 0xEF, and the header data within the input.
pub record VideoHeader (bytes : List ℕ) : Type 0 where
  pub long : 9 ≤ length bytes
  pub fixed_bits : fixed_hold head (number 9 bytes) ≡ true
  pub from_E0 : 0xE0 ≤ named "stream_id" head (number 9 bytes)
  pub to_EF : named "stream_id" head (number 9 bytes) ≤ 0xEF
  pub within : 9 + named "PES_header_data_length" head (number 9 bytes) ≤ length bytes

-- A header with a PTS whose fields fit: PTS and DTS as they stand there, and what the extension gives.
pub record LaidOut (bytes : List ℕ) (stamps : Stamps) (given : Extension) : Type 0 where
  pub video : VideoHeader bytes
  pub flagged : 0b10 ≤ named "PTS_DTS_flags" head (number 9 bytes)
  pub pts : List ℕ
  pub dts : List ℕ
  pub fields : HeaderData (flags_of head (number 9 bytes)) (data_of bytes) pts dts given
  pub stamps_are : stamps ≡ stamps_of (named "PTS_DTS_flags" head (number 9 bytes)) (pts ++ dts)

-- What the reader has to answer: 20 to 24 where each applies and none before it does, and else the times, whether a TREF stood there and where the
-- header ends.
pub data Answers (bytes : List ℕ) : Answer → Type 0 where
  not_video_header : (VideoHeader bytes → ⊥) → Answers bytes (Err NotVideoHeader)
  no_pts : VideoHeader bytes → named "PTS_DTS_flags" head (number 9 bytes) < 0b10 → Answers bytes (Err NoPts)
  fields_do_not_fit : VideoHeader bytes → 0b10 ≤ named "PTS_DTS_flags" head (number 9 bytes)
      → ((pts dts : List ℕ) (given : Extension) → HeaderData (flags_of head (number 9 bytes)) (data_of bytes) pts dts given → ⊥)
      → Answers bytes (Err FieldsDoNotFit)
  wrong_marker : {stamps : Stamps} {given : Extension} → LaidOut bytes stamps given → marks_of stamps given ≡ false → Answers bytes (Err WrongMarker)
  pts_before_dts_lem : {stamps : Stamps} {given : Extension} → LaidOut bytes stamps given → marks_of stamps given ≡ true
      → is_before stamps.pts stamps.decoding ≡ true
      → Answers bytes (Err PtsBeforeDts)
  says : {stamps : Stamps} {given : Extension} → LaidOut bytes stamps given → marks_of stamps given ≡ true
      → is_before stamps.pts stamps.decoding ≡ false
      → Answers bytes (Ok (header_of stamps (match_of stamps given) (sent_of given) (end_of bytes)))
