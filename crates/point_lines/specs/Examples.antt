-- Lines of points, computed from the definitions.
-- Assumes nothing.
use Rattle.std.specs.Prelude.{ℕ, true, false, [], ◌∷◌, ◌≡◌, refl}
use Rattle.text.specs.Text.{ascii, texts, decimal, decimal_width}
use Rattle.operation_points.specs.Values.{FrameRate, no_frame_rate, constant, BitRate, no_bit_rate, rate, PointValue}
use Rattle.point_lines.specs.Lines.{front_text, rates_text, members_text, point_line}

abbrev point : ℕ → ℕ → FrameRate → BitRate → BitRate → PointValue
point ols temporal frames average maximum =
    record { target_ols = ols; references = []; layers = []; temporal_id = temporal; frame_rate = frames; average = average; maximum = maximum }

-- every rate there: frames in a second
a_second : point_line 0 (point 0 0 (constant 2 30) (rate 2000) (rate 3000)) true (0 ∷ [])
    ≡ ascii "point 0 target_ols 0 temporal_id 0 frame_rate 30 average 2000 maximum 3000 closed yes streams 0\n"
unfolding point_line front_text rates_text members_text texts decimal decimal_width
a_second = refl

-- frames in 1.001 seconds, and two streams in their order
a_longer_second : point_line 1 (point 1 1 (constant 3 60) (rate 3000) (rate 4500)) false (2 ∷ 1 ∷ [])
    ≡ ascii "point 1 target_ols 1 temporal_id 1 frame_rate 60/1.001 average 3000 maximum 4500 closed no streams 2 1\n"
unfolding point_line front_text rates_text members_text texts decimal decimal_width
a_longer_second = refl

-- ticks, an average and no maximum
ticks : point_line 3 (point 3 0 (constant 1 3003) (rate 7000) no_bit_rate) true (0 ∷ 2 ∷ 4 ∷ [])
    ≡ ascii "point 3 target_ols 3 temporal_id 0 frame_ticks 3003 average 7000 maximum none closed yes streams 0 2 4\n"
unfolding point_line front_text rates_text members_text texts decimal decimal_width
ticks = refl

-- nothing that can be left out
bare : point_line 4 (point 4 1 no_frame_rate no_bit_rate no_bit_rate) true []
    ≡ ascii "point 4 target_ols 4 temporal_id 1 frame_rate none average none maximum none closed yes streams none\n"
unfolding point_line front_text rates_text members_text texts decimal decimal_width
bare = refl
