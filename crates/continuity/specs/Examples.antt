-- Packets one after another on a PID, computed: each has four bytes of interest or a few more, and 0xFF after them.
-- Assumes nothing.
use Rattle.std.specs.Prelude.{ℕ, ◌≡◌, refl, List, [], ◌∷◌}
use Rattle.packets.specs.Examples.{filled}
use Rattle.continuity.specs.Following.{step_of}
use Rattle.continuity.specs.declared.Step.TheVariants.{Skipped, Copy, Faulty, Starts, Continues}

-- payload only, with a counter
abbrev counted : ℕ → List ℕ
counted counter = filled (0x47 ∷ 0x01 ∷ 0x01 ∷ counter ∷ [])

-- an adaptation field of 7 bytes with a PCR that ends in a byte, and payload
abbrev clocked : ℕ → List ℕ
clocked last = filled (0x47 ∷ 0x01 ∷ 0x01 ∷ 0x35 ∷ 0x07 ∷ 0x10 ∷ 0x00 ∷ 0x00 ∷ 0x00 ∷ 0x00 ∷ 0x7E ∷ last ∷ [])

first : step_of [] (counted 0x17) ≡ Continues
first = refl

next : step_of (counted 0x17) (counted 0x18) ≡ Continues
next = refl

round : step_of (counted 0x1F) (counted 0x10) ≡ Continues
round = refl

missing_one : step_of (counted 0x17) (counted 0x19) ≡ Faulty 31
missing_one = refl

-- the same counter: a copy where all other bytes are the same too
again : step_of (counted 0x17) (counted 0x17) ≡ Copy
again = refl

other_bytes : step_of (counted 0x17) (filled (0x47 ∷ 0x01 ∷ 0x01 ∷ 0x17 ∷ 0x00 ∷ [])) ≡ Faulty 31
other_bytes = refl

-- another PCR is a copy all the same; the byte after it is compared
other_pcr : step_of (clocked 0x01) (clocked 0x02) ≡ Copy
other_pcr = refl

-- without payload the counter stays, and a packet with payload after it moves
stays : step_of (counted 0x17) (filled (0x47 ∷ 0x01 ∷ 0x01 ∷ 0x27 ∷ 0xB7 ∷ 0x00 ∷ [])) ≡ Continues
stays = refl

moves_without_payload : step_of (counted 0x17) (filled (0x47 ∷ 0x01 ∷ 0x01 ∷ 0x28 ∷ 0xB7 ∷ 0x00 ∷ [])) ≡ Faulty 31
moves_without_payload = refl

-- the discontinuity indicator lifts 31
told : step_of (counted 0x17) (filled (0x47 ∷ 0x01 ∷ 0x01 ∷ 0x3C ∷ 0x01 ∷ 0x80 ∷ [])) ≡ Continues
told = refl

-- 31 before 33
gap_first : step_of (counted 0x17) (filled (0x47 ∷ 0x01 ∷ 0x01 ∷ 0xDC ∷ [])) ≡ Faulty 31
gap_first = refl

scrambled : step_of (counted 0x17) (filled (0x47 ∷ 0x01 ∷ 0x01 ∷ 0xD8 ∷ [])) ≡ Faulty 33
scrambled = refl

-- skipped whole
skipped : step_of (counted 0x17) (filled (0x47 ∷ 0x81 ∷ 0x01 ∷ 0xDC ∷ [])) ≡ Skipped
skipped = refl

-- a unit starts after an adaptation field
starts : step_of (counted 0x17) (filled (0x47 ∷ 0x41 ∷ 0x01 ∷ 0x38 ∷ 0x01 ∷ 0x00 ∷ 0x00 ∷ 0x00 ∷ 0x01 ∷ 0xE0 ∷ 0x00 ∷ 0x00 ∷ 0x84 ∷ 0x80 ∷ 0x05 ∷ [])) ≡ Starts 6
starts = refl
