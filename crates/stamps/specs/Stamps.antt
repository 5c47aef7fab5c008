-- A time in its field of five bytes. Read: its 33 bits, and whether the bits that the table fixes are right. Written: its three parts, with
-- the fixed bits and the reserved ones.
-- Assumes nothing.
use Rattle.std.specs.Prelude.{ℕ, ◌+◌, ◌*◌, ◌/◌, ◌%◌, ◌^◌, cond, ◌&&◌, List, [], ◌∷◌, eqb, drop}
use Rattle.syntax.specs.Table.{Table, number, fixed_hold}
use Rattle.syntax.specs.Named.{named, Given, write_by}
use Rattle.stamps.specs.Tables.{pts_alone, pts_before_dts, dts}
use Rattle.stamps.specs.declared.Stamp.{Stamp}
use Rattle.stamps.specs.declared.Stamps.{Stamps}

-- the three parts of a time as one number
abbrev pub time_of : Table → ℕ → ℕ
time_of t n = named "[32..30]" t n * 2 ^ 30 + named "[29..15]" t n * 2 ^ 15 + named "[14..0]" t n

-- the time at the front of some bytes
abbrev pub stamp_of : Table → List ℕ → Stamp
stamp_of t bytes = record { marked = fixed_hold t (number 5 bytes); time = time_of t (number 5 bytes) }

-- a DTS follows PTS where PTS_DTS_flags is '11'
abbrev pub dts_flag : ℕ → ℕ
dts_flag pts_dts_flags = cond (eqb pts_dts_flags 0b11) 1 0

-- 'Decoding time is DTS, or PTS without a DTS.'
abbrev pub with_dts : Stamp → Stamp → Stamps
with_dts pts dts = record { marked = pts.marked && dts.marked; pts = pts.time; decoding = dts.time }

abbrev pub without_dts : Stamp → Stamps
without_dts pts = record { marked = pts.marked; pts = pts.time; decoding = pts.time }

-- PTS, and DTS where PTS_DTS_flags is '11', at the front of the header data
abbrev pub stamps_of : ℕ → List ℕ → Stamps
stamps_of pts_dts_flags bytes =
    cond (eqb pts_dts_flags 0b11) (with_dts (stamp_of pts_before_dts bytes) (stamp_of dts (drop 5 bytes))) (without_dts (stamp_of pts_alone bytes))

-- a time in its three parts, and as a field
abbrev pub parts_of : ℕ → Given
parts_of time = ("[32..30]", time / 2 ^ 30) ∷ ("[29..15]", time / 2 ^ 15 % 2 ^ 15) ∷ ("[14..0]", time % 2 ^ 15) ∷ []

abbrev pub time_field : Table → ℕ → List ℕ
time_field t time = write_by t (parts_of time)
