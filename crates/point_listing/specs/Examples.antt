-- What the program prints for two small loops, for none, and for a refusal, each computed from the definitions and the loops' bytes.
-- Assumes nothing.
use Rattle.std.specs.Prelude.{ℕ, List, [], ◌∷◌, ◌≡◌, refl}
use Rattle.sets.specs.Sets.{members_of}
use Rattle.operation_points.specs.Points.{head_of, first_point}
use Rattle.text.specs.Text.{ascii, texts, decimal, decimal_width}
use Rattle.listing.specs.Lines.{refused_text}
use Rattle.point_lines.specs.Lines.{front_text, rates_text, members_text, point_line}
use Rattle.point_listing.specs.Listing.{lines_from, told_text, points_text}

-- an elementary-stream loop of one stream, HEVC, with a hierarchy descriptor: layer 0, the base
abbrev base : List ℕ
base = 0x24 ∷ 0xE1 ∷ 0x00 ∷ 0xF0 ∷ 0x06 ∷ 0x04 ∷ 0x04 ∷ 0xFF ∷ 0xC0 ∷ 0xFF ∷ 0xC0 ∷ []

-- a program's loop with one point: output layer set 1, a reference to 0, one layer, a maximum rate alone
abbrev one : List ℕ
one = 0x3F ∷ 0x0C ∷ 0x05 ∷ 0xC0 ∷ 0x01 ∷ 0x01 ∷ 0x01 ∷ 0x80 ∷ 0xC1 ∷ 0xC0 ∷ 0xA1 ∷ 0x00 ∷ 0x17 ∷ 0x70 ∷ []

one_point : points_text one base ≡ ascii "accepted 1\npoint 0 target_ols 1 temporal_id 1 frame_rate none average none maximum 6000 closed yes streams 0\n"
unfolding points_text told_text lines_from point_line front_text rates_text members_text texts decimal decimal_width head_of first_point members_of
one_point = refl

no_point : points_text [] base ≡ ascii "accepted 0\n"
unfolding points_text told_text lines_from decimal decimal_width
no_point = refl

-- a reference to 0, and no layer
unknown : points_text one [] ≡ ascii "refused 42 entry 0\n"
unfolding points_text refused_text decimal decimal_width head_of first_point
unknown = refl
