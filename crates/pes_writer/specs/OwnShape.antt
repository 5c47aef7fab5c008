-- A header in the writer's own shape, field by field, and what the writer has to do: reserved bits 1, fixed bits as printed, a DTS
-- only if it differs from PTS, a TREF exactly when asked for, and no other field.
-- `WrittenBy t given l` says of bytes l that they are a table t whole, each line with what its name is given, its fixed bits and its reserved
-- bits 1.
-- Assumes nothing.
use Rattle.std.specs.Prelude.{ℕ, ◌≤◌, ◌<◌, ◌≡◌, Bool, true, false, List, [], ◌∷◌, ◌++◌, length, Err, Ok}
use Rattle.buffers.specs.Buffers.{over}
use Rattle.syntax.specs.Named.{WrittenBy}
use Rattle.clock.specs.Clock.{ticks, is_before}
use Rattle.vocabulary.specs.declared.refusal.Refusal.TheVariants.{NoRoom, PtsBeforeDts, TooWide}
use Rattle.stamps.specs.Tables as TimeTables
use Rattle.stamps.specs.Tables.{pts_alone, pts_before_dts, tref}
use Rattle.stamps.specs.Stamps.{parts_of}
use Rattle.stamps.specs.declared.Times.{Times}
use Rattle.pes_fields.specs.Tables as Tables
use Rattle.pes_fields.specs.Tables.{extension_flags, second_extension, tref_extension}
use Rattle.pes_fields.specs.Meaning.{in_order}
use Rattle.pes_writer.specs.Writing.{second_alone, six_bytes, tref_follows, head_given}
use Rattle.pes_writer.specs.Answer.{Written}

-- PTS_DTS_flags, the bytes of PTS and DTS, PTS and decoding time
pub data OwnTimes : ℕ → List ℕ → ℕ → ℕ → Type 0 where
  alone : {field : List ℕ} {time : ℕ} → WrittenBy pts_alone (parts_of time) field → OwnTimes 0b10 field time time
  both : {pts_field dts_field : List ℕ} {pts decoding : ℕ} → WrittenBy pts_before_dts (parts_of pts) pts_field
      → WrittenBy TimeTables.dts (parts_of decoding) dts_field → (pts ≡ decoding → ⊥)
      → OwnTimes 0b11 (in_order (pts_field ∷ []) dts_field) pts decoding

-- PES_extension_flag, the bytes of the extension, decoding and match time, and whether a TREF was asked for: it may equal the decoding time
pub data OwnExtension : ℕ → List ℕ → ℕ → ℕ → Bool → Type 0 where
  none : {time : ℕ} → OwnExtension 0 [] time time false
  with_tref : {flags second mark field : List ℕ} {decoding matching : ℕ} → WrittenBy extension_flags second_alone flags
      → WrittenBy second_extension six_bytes second → WrittenBy tref_extension tref_follows mark → WrittenBy tref (parts_of matching) field
      → OwnExtension 1 (in_order (flags ∷ second ∷ mark ∷ []) field) decoding matching true

-- the header whole: the head, of which PES_header_data_length is all that follows, and the fields
pub record OwnShape (bytes : List ℕ) (given : Times) (with_tref : Bool) : Type 0 where
  pub head : List ℕ
  pub times : List ℕ
  pub extension : List ℕ
  pub pts_dts_flags : ℕ
  pub extension_flag : ℕ
  pub order : bytes ≡ in_order (head ∷ times ∷ []) extension
  pub head_is : WrittenBy Tables.head (head_given pts_dts_flags extension_flag (length (times ++ extension))) head
  pub times_are : OwnTimes pts_dts_flags times given.pts given.decoding
  pub extension_is : OwnExtension extension_flag extension given.decoding given.matching with_tref

-- Times that are not too wide for their fields. Without a TREF the match time has no field, and can only be the decoding time.
pub record Narrow (times : Times) (with_tref : Bool) : Type 0 where
  pub pts_below : times.pts < ticks
  pub decoding_below : times.decoding < ticks
  pub matching_below : times.matching < ticks
  pub without_tref : with_tref ≡ false → times.matching ≡ times.decoding

-- What the writer has to answer and leave in the buffer: 25, 17, 24 where each applies and none before it does, and else the header
-- at the front, with the room beyond it untouched.
pub data Writes (times : Times) (with_tref : Bool) (out : List ℕ) : Written → List ℕ → Type 0 where
  too_wide_lem : (Narrow times with_tref → ⊥) → Writes times with_tref out (Err TooWide) out
  no_room : {header : List ℕ} → Narrow times with_tref → OwnShape header times with_tref → length out < length header
      → Writes times with_tref out (Err NoRoom) out
  pts_before_dts_lem : {header : List ℕ} → Narrow times with_tref → OwnShape header times with_tref → length header ≤ length out
      → is_before times.pts times.decoding ≡ true
      → Writes times with_tref out (Err PtsBeforeDts) out
  written : {header : List ℕ} → Narrow times with_tref → OwnShape header times with_tref → length header ≤ length out
      → is_before times.pts times.decoding ≡ false
      → Writes times with_tref out (Ok (length header)) (over header out)
