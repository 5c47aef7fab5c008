-- The fields of Table 2-21 of Rec. ITU-T H.222.0, PES_packet(), that hold a time, as tables: their lines in order, with their numbers of
-- bits. The lines of TREF are those of source 003, 2.4.3.6.
-- Assumes nothing.
use Rattle.std.specs.Prelude.{ℕ, [], ◌∷◌}
use Rattle.syntax.specs.Table.{value, reserved, fixed, Table}

-- The 33 bits of a time, in three parts with a marker_bit after each. PTS and DTS have four fixed bits before them, TREF four
-- reserved ones: five bytes each.
abbrev pub time_bits : Table
time_bits =
    value 3 "[32..30]" ∷ fixed 1 0b1 ∷ value 15 "[29..15]" ∷ fixed 1 0b1 ∷ value 15 "[14..0]" ∷ fixed 1 0b1 ∷ []

abbrev pub prefixed : ℕ → Table
prefixed bits = fixed 4 bits ∷ time_bits

-- if (PTS_DTS_flags == '10'): '0010', PTS
abbrev pub pts_alone : Table
pts_alone = prefixed 0b0010

-- if (PTS_DTS_flags == '11'): '0011', PTS, '0001', DTS
abbrev pub pts_before_dts : Table
pts_before_dts = prefixed 0b0011

abbrev pub dts : Table
dts = prefixed 0b0001

-- if (tref_extension_flag == '0'): reserved, TREF
abbrev pub tref : Table
tref = reserved 4 ∷ time_bits
