-- The reading of a PES header for its three times alone, as document 01 has it and as it was before document 02's W-213: PTS, decoding time and match
-- time, or a refusal. proofs/ThreeTimesLaws.antt shows that these are the times which the reader answers now, so that whatever is built on them stays.
-- Assumes nothing.
use Rattle.std.specs.Prelude.{ℕ, Bool, cond, ◌&&◌, List, leb, Err, Ok}
use Rattle.syntax.specs.Table.{number}
use Rattle.syntax.specs.Named.{named}
use Rattle.clock.specs.Clock.{is_before}
use Rattle.vocabulary.specs.declared.refusal.Refusal.{Refusal}
use Rattle.vocabulary.specs.declared.refusal.Refusal.TheVariants.{NotVideoHeader, NoPts, FieldsDoNotFit, WrongMarker, PtsBeforeDts}
use Rattle.stamps.specs.Stamps.{stamps_of}
use Rattle.stamps.specs.declared.Stamps.{Stamps}
use Rattle.pes_fields.specs.Tables.{head}
use Rattle.pes_fields.specs.HeaderData.{Flags, flags_of, header_data_of}
use Rattle.pes_fields.specs.declared.Extension.{Extension}
use Rattle.pes_fields.specs.declared.Extension.TheVariants.{DoesNotFit, WithoutTref, WithTref}
use Rattle.pes_reader.specs.Reading.{is_video_header, data_of}
use Rattle.pes_reader.specs.Answer.{Answer}

pub data ThreeTimes : Type 0 where
  times : ℕ → ℕ → ℕ → ThreeTimes
  refused : Refusal → ThreeTimes

-- 23 before 24, and else the times
abbrev pub judged_times : Bool → ℕ → ℕ → ℕ → ThreeTimes
judged_times marked pts decoding matching =
    cond marked (cond (is_before pts decoding) (refused PtsBeforeDts) (times pts decoding matching)) (refused WrongMarker)

-- 22 before them
abbrev pub times_of : Stamps → Extension → ThreeTimes
times_of stamps DoesNotFit = refused FieldsDoNotFit
times_of stamps (WithoutTref marked) = judged_times (stamps.marked && marked) stamps.pts stamps.decoding stamps.decoding
times_of stamps (WithTref tref) = judged_times (stamps.marked && tref.marked) stamps.pts stamps.decoding tref.time

abbrev pub times_in_fields : Flags → List ℕ → ThreeTimes
times_in_fields flags bytes = times_of (stamps_of flags.pts_dts bytes) (header_data_of flags bytes)

-- 20 before 21 before all others
abbrev pub three_times_of : List ℕ → ThreeTimes
three_times_of bytes =
    cond (is_video_header bytes)
    (cond (leb 0b10 (named "PTS_DTS_flags" head (number 9 bytes))) (times_in_fields (flags_of head (number 9 bytes)) (data_of bytes)) (refused NoPts))
    (refused NotVideoHeader)

-- the three times in what the reader answers
abbrev pub times_in : Answer → ThreeTimes
times_in (Ok header) = times header.times.pts header.times.decoding header.times.matching
times_in (Err refusal) = refused refusal
