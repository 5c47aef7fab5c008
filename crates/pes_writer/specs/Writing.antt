-- What the writer makes of three times and of its caller's choice whether a TREF is sent: 'stream id 0xE0, packet length 0, byte 0x84, a DTS only
-- if it differs from PTS', a TREF exactly when asked for (document 02, W-213), 'and no other field'.
-- Assumes nothing.
use Rattle.std.specs.Prelude.{ℕ, Bool, cond, not, ◌&&◌, ◌||◌, List, [], ◌∷◌, ◌++◌, eqb, leb, length, Err, Ok}
use Rattle.buffers.specs.Buffers.{over}
use Rattle.syntax.specs.Named.{Given, write_by}
use Rattle.clock.specs.Clock.{ticks, is_before}
use Rattle.vocabulary.specs.declared.refusal.Refusal.TheVariants.{NoRoom, PtsBeforeDts, TooWide}
use Rattle.stamps.specs.Tables.{pts_alone, pts_before_dts, dts, tref}
use Rattle.stamps.specs.Stamps.{time_field}
use Rattle.stamps.specs.declared.Times.{Times}
use Rattle.pes_fields.specs.Tables.{head, extension_flags, second_extension, tref_extension}
use Rattle.pes_writer.specs.Answer.{Written}

-- PTS, and DTS if it differs
abbrev pub time_fields : ℕ → ℕ → List ℕ
time_fields pts decoding =
    cond (eqb pts decoding) (time_field pts_alone pts) (time_field pts_before_dts pts ++ time_field dts decoding)

-- the extension, if a TREF is asked for: no other flag of it, a second extension of 6 bytes, and TREF
abbrev pub second_alone : Given
second_alone = ("PES_extension_flag_2", 1) ∷ []

abbrev pub six_bytes : Given
six_bytes = ("PES_extension_field_length", 6) ∷ []

abbrev pub tref_follows : Given
tref_follows = ("stream_id_extension_flag", 1) ∷ ("tref_extension_flag", 0) ∷ []

abbrev pub tref_head : List ℕ
tref_head = write_by extension_flags second_alone ++ (write_by second_extension six_bytes ++ write_by tref_extension tref_follows)

abbrev pub tref_fields : Bool → ℕ → List ℕ
tref_fields with_tref matching = cond with_tref (tref_head ++ time_field tref matching) []

abbrev pub tref_length : Bool → ℕ
tref_length with_tref = cond with_tref 8 0

abbrev pub data_fields : Times → Bool → List ℕ
data_fields times with_tref = time_fields times.pts times.decoding ++ tref_fields with_tref times.matching

-- What is given to the head's lines; all others have 0. Byte 0x84 is '10' and data_alignment_indicator.
abbrev pub head_given : ℕ → ℕ → ℕ → Given
head_given pts_dts_flags extension_flag data_length =
    ("stream_id", 0xE0)
    ∷ ("PES_packet_length", 0)
    ∷ ("data_alignment_indicator", 1)
    ∷ ("PTS_DTS_flags", pts_dts_flags)
    ∷ ("PES_extension_flag", extension_flag)
    ∷ ("PES_header_data_length", data_length)
    ∷ []

abbrev pub pts_dts_flags_of : ℕ → ℕ → ℕ
pts_dts_flags_of pts decoding = cond (eqb pts decoding) 0b10 0b11

abbrev pub extension_flag_of : Bool → ℕ
extension_flag_of with_tref = cond with_tref 1 0

abbrev pub head_of : Times → Bool → List ℕ
head_of times with_tref =
    write_by head
    (head_given (pts_dts_flags_of times.pts times.decoding) (extension_flag_of with_tref) (length (data_fields times with_tref)))

-- The header whole.
abbrev pub header_of : Times → Bool → List ℕ
header_of times with_tref = head_of times with_tref ++ data_fields times with_tref

-- '25: a value to be written is too wide for its field'; and 'when asked for no TREF although match and decoding time differ', since the match
-- time then has no field at all
abbrev pub too_wide : Times → Bool → Bool
too_wide times with_tref =
    leb ticks times.pts
    || leb ticks times.decoding
    || leb ticks times.matching
    || (not with_tref && not (eqb times.matching times.decoding))

-- 'Writers test 25 before all else', and then the lowest number: 17 for the room, 24. The answer is the number of bytes written.
abbrev pub write_of : Times → Bool → ℕ → Written
write_of times with_tref room =
    cond (too_wide times with_tref) (Err TooWide)
    (cond (leb (length (header_of times with_tref)) room)
    (cond (is_before times.pts times.decoding) (Err PtsBeforeDts) (Ok (length (header_of times with_tref))))
    (Err NoRoom))

-- 'every output buffer is untouched' on a refusal, and on acceptance 'the room beyond what was written'
abbrev pub buffer_of : Written → List ℕ → List ℕ → List ℕ
buffer_of (Ok n) header out = over header out
buffer_of (Err refusal) header out = out
