-- Recordings of a few packets, computed. PID 0x101 is that of layer 0.
-- Assumes nothing.
use Rattle.std.specs.Prelude.{ℕ, ◌≡◌, refl, false, List, [], ◌∷◌, ◌++◌, replicate, Err, Ok}
use Rattle.packets.specs.Examples.{filled}
use Rattle.vocabulary.specs.declared.refusal.Refusal.TheVariants.{NotVideoHeader, LostSync, CounterGap}
use Rattle.unit_starts.specs.Finding.{found_in, rows_in}
use Rattle.recordings.specs.Reading.{answer_of}
use Rattle.recordings.specs.declared.RecordingFault.TheVariants.{Faulty, NotRead, TooManyRows}

abbrev table : List ℕ
table = replicate 0x101 255 ++ 0 ∷ replicate 0x1EFE 255

-- a unit start on PID 0x101 with a counter, whose PES header has PTS 9000 alone; the same with another stream_id; and a packet of PID 0x100
abbrev start : ℕ → List ℕ
start counter = filled (0x47 ∷ 0x41 ∷ 0x01 ∷ counter ∷ 0x00 ∷ 0x00 ∷ 0x01 ∷ 0xE0 ∷ 0x00 ∷ 0x00 ∷ 0x84 ∷ 0x80 ∷ 0x05 ∷ 0x21 ∷ 0x00 ∷ 0x01 ∷ 0x46 ∷ 0x51 ∷ [])

abbrev audio : ℕ → List ℕ
audio counter = filled (0x47 ∷ 0x41 ∷ 0x01 ∷ counter ∷ 0x00 ∷ 0x00 ∷ 0x01 ∷ 0xC0 ∷ 0x00 ∷ 0x00 ∷ 0x84 ∷ 0x80 ∷ 0x05 ∷ 0x21 ∷ 0x00 ∷ 0x01 ∷ 0x46 ∷ 0x51 ∷ [])

abbrev other : List ℕ
other = filled (0x47 ∷ 0x01 ∷ 0x00 ∷ 0x10 ∷ [])

-- 'An empty recording is accepted.'
empty : answer_of (found_in table []) 0 ≡ Ok 0
empty = refl

-- 'A last part of a packet gives 30.'
last_part : answer_of (found_in table (other ++ 0x47 ∷ [])) 8 ≡ Err (Faulty (LostSync 1))
last_part = refl

-- a row for the unit, with the number of its packet; a copy of that packet counts once
one_row : rows_in table (other ++ start 0x15 ++ start 0x15) ≡ record { layer = 0; decoding = 9000; matching = 9000; tref_sent = false; packet = 1 } ∷ []
one_row = refl

counted : answer_of (found_in table (other ++ start 0x15 ++ start 0x15)) 1 ≡ Ok 1
counted = refl

-- 13 where the columns do not hold the rows
no_room : answer_of (found_in table (start 0x15 ++ start 0x16)) 1 ≡ Err TooManyRows
no_room = refl

-- 31 before 33, wherever they stand; 20 at its packet
gap_before_scrambled : answer_of (found_in table (filled (0x47 ∷ 0x01 ∷ 0x01 ∷ 0xD4 ∷ []) ++ start 0x15 ++ start 0x17)) 8 ≡ Err (Faulty (CounterGap 2))
gap_before_scrambled = refl

not_video : answer_of (found_in table (other ++ start 0x15 ++ audio 0x16)) 8 ≡ Err (NotRead NotVideoHeader 2)
not_video = refl
