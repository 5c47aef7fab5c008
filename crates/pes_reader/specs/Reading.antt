-- What the reader answers for any bytes: the three times, whether a TREF stood there and where the header ends, or the lowest refusal of 20 to 24
-- that applies.
-- Assumes nothing.
use Rattle.std.specs.Prelude.{ℕ, ◌+◌, Bool, true, false, cond, ◌&&◌, List, leb, length, take, drop, Err, Ok}
use Rattle.syntax.specs.Table.{number, fixed_hold}
use Rattle.syntax.specs.Named.{named}
use Rattle.clock.specs.Clock.{is_before}
use Rattle.vocabulary.specs.declared.refusal.Refusal.TheVariants.{NotVideoHeader, NoPts, FieldsDoNotFit, WrongMarker, PtsBeforeDts}
use Rattle.stamps.specs.Stamps.{stamps_of}
use Rattle.stamps.specs.declared.Stamps.{Stamps}
use Rattle.pes_fields.specs.Tables.{head}
use Rattle.pes_fields.specs.HeaderData.{Flags, flags_of, header_data_of}
use Rattle.pes_fields.specs.declared.Extension.{Extension}
use Rattle.pes_fields.specs.declared.Extension.TheVariants.{DoesNotFit, WithoutTref, WithTref}
use Rattle.pes_reader.specs.Answer.{Answer}
use Rattle.pes_reader.specs.declared.Header.{Header}

-- '20: fewer than 9 bytes, prefix not 00 00 01, stream_id outside 0xE0 to 0xEF, the next two bits after the length not '10', or
-- header data past the input.' The prefix and the '10' are the fixed bits of the head.
abbrev pub is_video_header : List ℕ → Bool
is_video_header bytes =
    leb 9 (length bytes)
    && fixed_hold head (number 9 bytes)
    && leb 0xE0 (named "stream_id" head (number 9 bytes))
    && leb (named "stream_id" head (number 9 bytes)) 0xEF
    && leb (9 + named "PES_header_data_length" head (number 9 bytes)) (length bytes)

-- as many bytes after the head as PES_header_data_length says
abbrev pub data_of : List ℕ → List ℕ
data_of bytes = take (named "PES_header_data_length" head (number 9 bytes)) (drop 9 bytes)

-- 'at which offset the header ends': 9 plus PES_header_data_length, so that stuffing belongs to the header
abbrev pub end_of : List ℕ → ℕ
end_of bytes = 9 + named "PES_header_data_length" head (number 9 bytes)

-- 23 before 24, and else what the header says
abbrev pub judged : Bool → Header → Answer
judged marked header =
    cond marked (cond (is_before header.times.pts header.times.decoding) (Err PtsBeforeDts) (Ok header)) (Err WrongMarker)

-- whether all markers and prefixes are right
abbrev pub marks_of : Stamps → Extension → Bool
marks_of stamps DoesNotFit = false
marks_of stamps (WithoutTref marked) = stamps.marked && marked
marks_of stamps (WithTref tref) = stamps.marked && tref.marked

-- 'Match time is TREF, or the decoding time without one.'
abbrev pub match_of : Stamps → Extension → ℕ
match_of stamps DoesNotFit = stamps.decoding
match_of stamps (WithoutTref marked) = stamps.decoding
match_of stamps (WithTref tref) = tref.time

-- 'whether a TREF stood in the header', also one that equals the decoding time
abbrev pub sent_of : Extension → Bool
sent_of DoesNotFit = false
sent_of (WithoutTref marked) = false
sent_of (WithTref tref) = true

-- what a header says: PTS and decoding time, match time, whether a TREF stood there, where it ends
abbrev pub header_of : Stamps → ℕ → Bool → ℕ → Header
header_of stamps matching sent end =
    record { times = record { pts = stamps.pts; decoding = stamps.decoding; matching = matching }; tref_sent = sent; end = end }

-- 22 before 23 and 24
abbrev pub said_by : ℕ → Stamps → Extension → Answer
said_by end stamps DoesNotFit = Err FieldsDoNotFit
said_by end stamps (WithoutTref marked) = judged (stamps.marked && marked) (header_of stamps stamps.decoding false end)
said_by end stamps (WithTref tref) = judged (stamps.marked && tref.marked) (header_of stamps tref.time true end)

abbrev pub fields_of : ℕ → Flags → List ℕ → Answer
fields_of end flags bytes = said_by end (stamps_of flags.pts_dts bytes) (header_data_of flags bytes)

-- '21: PTS_DTS_flags is 00 or 01'
abbrev pub video_header_of : List ℕ → Answer
video_header_of bytes =
    cond (leb 0b10 (named "PTS_DTS_flags" head (number 9 bytes)))
    (fields_of (end_of bytes) (flags_of head (number 9 bytes)) (data_of bytes))
    (Err NoPts)

-- The reader's whole answer.
abbrev pub read_of : List ℕ → Answer
read_of bytes = cond (is_video_header bytes) (video_header_of bytes) (Err NotVideoHeader)
