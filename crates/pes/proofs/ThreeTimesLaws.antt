-- The three times that the reader answers, and its refusals, are those of the reading for the times alone.
-- Assumes nothing.
use Rattle.std.specs.Prelude.{Err, Ok}
use Prim.Native.Nat.{ℕ}
use mathlib.Core.Path.{◌≡◌, refl, ap, ◌∙◌}
use mathlib.Core.Bool.{Bool, true, false, cond, ◌&&◌}
use mathlib.Core.List.{List}
use lib.Dec.{leb}
use Rattle.syntax.specs.Table.{number}
use Rattle.syntax.specs.Named.{named}
use Rattle.clock.specs.Clock.{is_before}
use Rattle.vocabulary.specs.declared.refusal.Refusal.TheVariants.{NotVideoHeader, NoPts, WrongMarker, PtsBeforeDts}
use Rattle.stamps.specs.Stamps.{stamps_of}
use Rattle.stamps.specs.declared.Stamps.{Stamps}
use Rattle.pes_fields.specs.Tables.{head}
use Rattle.pes_fields.specs.HeaderData.{Flags, flags_of, header_data_of}
use Rattle.pes_fields.specs.declared.Extension.{Extension}
use Rattle.pes_fields.specs.declared.Extension.TheVariants.{DoesNotFit, WithoutTref, WithTref}
use Rattle.pes_reader.specs.Reading.{is_video_header, data_of, end_of, judged, header_of, said_by, fields_of, video_header_of, read_of}
use Rattle.pes_reader.specs.Answer.{Answer}
use Rattle.pes_reader.specs.declared.Header.{Header}
use Rattle.pes.specs.ThreeTimes.{ThreeTimes, refused, judged_times, times_of, three_times_of, times_in}

-- the times of either answer
either : (t : Bool) (one other : Answer) → times_in (cond t one other) ≡ cond t (times_in one) (times_in other)
either true one other = refl
either false one other = refl

judged_stays : (marked : Bool) (header : Header)
    → times_in (judged marked header) ≡ judged_times marked header.times.pts header.times.decoding header.times.matching
judged_stays marked header =
    let pts : ℕ = header.times.pts in
    let decoding : ℕ = header.times.decoding in
    either marked (cond (is_before pts decoding) (Err PtsBeforeDts) (Ok header)) (Err WrongMarker)
    ∙ ap (λ (x : ThreeTimes). cond marked x (refused WrongMarker)) (either (is_before pts decoding) (Err PtsBeforeDts) (Ok header))

said_stays : (end : ℕ) (stamps : Stamps) (given : Extension) → times_in (said_by end stamps given) ≡ times_of stamps given
said_stays end stamps DoesNotFit = refl
said_stays end stamps (WithoutTref marked) = judged_stays (stamps.marked && marked) (header_of stamps stamps.decoding false end)
said_stays end stamps (WithTref tref) = judged_stays (stamps.marked && tref.marked) (header_of stamps tref.time true end)

pub times_stay : (bytes : List ℕ) → times_in (read_of bytes) ≡ three_times_of bytes
times_stay bytes =
    let flags : Flags = flags_of head (number 9 bytes) in
    let flagged : Bool = leb 0b10 (named "PTS_DTS_flags" head (number 9 bytes)) in
    either (is_video_header bytes) (video_header_of bytes) (Err NotVideoHeader)
    ∙ ap (λ (x : ThreeTimes). cond (is_video_header bytes) x (refused NotVideoHeader))
    (either flagged (fields_of (end_of bytes) flags (data_of bytes)) (Err NoPts)
    ∙ ap (λ (x : ThreeTimes). cond flagged x (refused NoPts))
    (said_stays (end_of bytes) (stamps_of flags.pts_dts (data_of bytes)) (header_data_of flags (data_of bytes))))
