-- The lines that the program `points` prints: it 'lists each point: its number, target_ols, stream list, highest temporal id, rates, and whether the list is closed'.
-- Assumes nothing.
use Rattle.std.specs.Prelude.{ℕ, Bool, true, false, cond, List, ◌++◌, eqb, length, get_or}
use Rattle.text.specs.Text.{ascii, texts}
use Rattle.listing.specs.Lines.{labelled}
use Rattle.operation_points.specs.Values.{FrameRate, no_frame_rate, constant, BitRate, no_bit_rate, rate, PointValue}

unfoldable pub front_text : ℕ → ℕ → ℕ → List ℕ
front_text index target_ols temporal_id =
    labelled (ascii "point ") index ++ labelled (ascii " target_ols ") target_ols ++ labelled (ascii " temporal_id ") temporal_id

-- by constant_frame_rate_info_idc: 1, the ticks of a frame; 2, frames in a second; 3, frames in 1.001 seconds
abbrev pub frame_text : FrameRate → List ℕ
frame_text no_frame_rate = ascii " frame_rate none"
frame_text (constant idc indicator) =
    cond (eqb idc 1) (labelled (ascii " frame_ticks ") indicator)
    (cond (eqb idc 2) (labelled (ascii " frame_rate ") indicator) (labelled (ascii " frame_rate ") indicator ++ ascii "/1.001"))

-- in thousands of bits a second
abbrev pub rate_text : List ℕ → BitRate → List ℕ
rate_text label no_bit_rate = label ++ ascii "none"
rate_text label (rate number) = labelled label number

unfoldable pub rates_text : PointValue → List ℕ
rates_text value = frame_text value.frame_rate ++ rate_text (ascii " average ") value.average ++ rate_text (ascii " maximum ") value.maximum

-- under embedding
abbrev pub closed_text : Bool → List ℕ
closed_text true = ascii " closed yes"
closed_text false = ascii " closed no"

-- the members in the list's order, each after a space
abbrev pub member_text : List ℕ → ℕ → List ℕ
member_text streams i = labelled (ascii " ") (get_or streams i 0)

unfoldable pub members_text : List ℕ → List ℕ
members_text streams = texts (member_text streams) (length streams)

abbrev pub streams_text : List ℕ → List ℕ
streams_text streams = cond (eqb (length streams) 0) (ascii " streams none") (ascii " streams" ++ members_text streams)

unfoldable pub point_line : ℕ → PointValue → Bool → List ℕ → List ℕ
point_line index value closed streams =
    front_text index value.target_ols value.temporal_id ++ rates_text value ++ closed_text closed ++ streams_text streams ++ ascii "\n"
