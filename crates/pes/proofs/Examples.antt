-- The two headers of document 01, read and written, and the first of them with a TREF that equals the decoding time.
-- Assumes nothing.
use Rattle.std.specs.Prelude.{Ok}
use Prim.Native.Nat.{ℕ}
use mathlib.Core.Path.{◌≡◌, refl}
use mathlib.Core.Bool.{true, false}
use mathlib.Core.List.{List, [], ◌∷◌, ◌++◌}
use Rattle.pes_reader.specs.Reading.{read_of}
use Rattle.stamps.specs.declared.Times.{Times}
use Rattle.pes_writer.specs.Writing.{header_of}
use Rattle.pes.proofs.RoundTrips.{read_back}

abbrev times : ℕ → ℕ → ℕ → Times
times pts decoding matching = record { pts = pts; decoding = decoding; matching = matching }

-- 'PTS 9000 alone'
abbrev pub pts9000 : List ℕ
pts9000 = 0x00 ∷ 0x00 ∷ 0x01 ∷ 0xE0 ∷ 0x00 ∷ 0x00 ∷ 0x84 ∷ 0x80 ∷ 0x05 ∷ 0x21 ∷ 0x00 ∷ 0x01 ∷ 0x46 ∷ 0x51 ∷ []

pub pts9000_read : read_of pts9000 ≡ Ok (read_back (times 9000 9000 9000) false 14)
pts9000_read = refl

pub pts9000_written : header_of (times 9000 9000 9000) false ≡ pts9000
pts9000_written = refl

-- 'PTS 12000, TREF 12600'
abbrev head_with_tref : List ℕ
head_with_tref = 0x00 ∷ 0x00 ∷ 0x01 ∷ 0xE0 ∷ 0x00 ∷ 0x00 ∷ 0x84 ∷ 0x81 ∷ 0x0D ∷ []

abbrev pub tref12600 : List ℕ
tref12600 = head_with_tref ++ (0x21 ∷ 0x00 ∷ 0x01 ∷ 0x5D ∷ 0xC1 ∷ []) ++ (0x0F ∷ 0x86 ∷ 0xFE ∷ 0xF1 ∷ 0x00 ∷ 0x01 ∷ 0x62 ∷ 0x71 ∷ [])

pub tref12600_read : read_of tref12600 ≡ Ok (read_back (times 12000 12000 12600) true 22)
tref12600_read = refl

pub tref12600_written : header_of (times 12000 12000 12600) true ≡ tref12600
tref12600_written = refl

-- 'even where it equals the decoding time' (document 02, W-213)
abbrev pub tref9000 : List ℕ
tref9000 = head_with_tref ++ (0x21 ∷ 0x00 ∷ 0x01 ∷ 0x46 ∷ 0x51 ∷ []) ++ (0x0F ∷ 0x86 ∷ 0xFE ∷ 0xF1 ∷ 0x00 ∷ 0x01 ∷ 0x46 ∷ 0x51 ∷ [])

pub tref9000_read : read_of tref9000 ≡ Ok (read_back (times 9000 9000 9000) true 22)
tref9000_read = refl

pub tref9000_written : header_of (times 9000 9000 9000) true ≡ tref9000
tref9000_written = refl
