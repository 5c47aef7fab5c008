-- Document 01's examples through the functions for C, computed from the definitions: answers as numbers, and whole buffers.
-- Assumes nothing.
use Rattle.std.specs.Prelude.{◌+◌, ◌*◌, [], ◌∷◌, ◌≡◌, refl, take, drop, replicate}
use Rattle.sets.specs.Sets.{size}
use Rattle.es_loop.specs.Examples.{loop_a}
use Rattle.entry_rows.specs.Rows.{head_of, tail_of}
use Rattle.c_answers.specs.Answers.{reply}
use Rattle.thoquenry.specs.Loops.{read_loop, closure_call}
use Rattle.thoquenry.specs.Times.{read_times, write_times}

-- Target 2: closure 0, 2 in 2015; 11 in 2009. A second place is untouched, and so is the buffer after a refusal.
target_2_in_2015 : closure_call 2015 loop_a 2 (7 ∷ 7 ∷ []) ≡ reply (0 + 256 * 2) (0b101 ∷ 7 ∷ [])
unfolding size
target_2_in_2015 = refl

target_2_in_2009 : closure_call 2009 loop_a 2 (7 ∷ []) ≡ reply 11 (7 ∷ [])
target_2_in_2009 = refl

-- no such reading, and no room for an accepted answer
neither_reading : closure_call 2010 loop_a 2 [] ≡ reply 255 []
neither_reading = refl

no_room : closure_call 2015 loop_a 2 [] ≡ reply 17 []
no_room = refl

-- 4 bytes: 2 at entry 0. Behind a whole entry: 2 at entry 1.
four_bytes : read_loop 2015 (0x1B ∷ 0xE1 ∷ 0x00 ∷ 0xF0 ∷ []) (9 ∷ []) ≡ reply 2 (9 ∷ [])
four_bytes = refl

nine_bytes : read_loop 2015 (0x02 ∷ 0xE1 ∷ 0x00 ∷ 0xF0 ∷ 0x00 ∷ 0x1B ∷ 0xE1 ∷ 0x00 ∷ 0xF0 ∷ []) (9 ∷ []) ≡ reply (2 + 256 * 1) (9 ∷ [])
nine_bytes = refl

-- loop A: three entries, and the first 17 numbers of the third row
three_entries : (read_loop 2015 loop_a (replicate 241 9)).answer ≡ 0 + 256 * 3
three_entries = refl

third_row : take 17 (drop 160 (read_loop 2015 loop_a (replicate 241 9)).buffer)
    ≡ 0x28 ∷ 258 ∷ 2 ∷ 0 ∷ 0 ∷ 0 ∷ 0 ∷ 0 ∷ 2 ∷ 1 ∷ 0 ∷ 2 ∷ 2 ∷ 0 ∷ 1 ∷ 1 ∷ 0 ∷ []
unfolding head_of tail_of
third_row = refl

-- 'PTS 9000 alone', read and written: no TREF, and the header ends at 14
nine_thousand : read_times (0x00 ∷ 0x00 ∷ 0x01 ∷ 0xE0 ∷ 0x00 ∷ 0x00 ∷ 0x84 ∷ 0x80 ∷ 0x05 ∷ 0x21 ∷ 0x00 ∷ 0x01 ∷ 0x46 ∷ 0x51 ∷ []) (0 ∷ 0 ∷ 0 ∷ 0 ∷ 0 ∷ 7 ∷ [])
    ≡ reply (0 + 256 * 5) (9000 ∷ 9000 ∷ 9000 ∷ 0 ∷ 14 ∷ 7 ∷ [])
nine_thousand = refl

written : write_times 9000 9000 9000 0 (replicate 15 7)
    ≡ reply (0 + 256 * 14) (0x00 ∷ 0x00 ∷ 0x01 ∷ 0xE0 ∷ 0x00 ∷ 0x00 ∷ 0x84 ∷ 0x80 ∷ 0x05 ∷ 0x21 ∷ 0x00 ∷ 0x01 ∷ 0x46 ∷ 0x51 ∷ 7 ∷ [])
written = refl

-- four numbers are no room; a choice of 2 and a match time without a TREF give 25, in no room too
room_for_four : read_times [] (0 ∷ 0 ∷ 0 ∷ 0 ∷ []) ≡ reply 17 (0 ∷ 0 ∷ 0 ∷ 0 ∷ [])
room_for_four = refl

neither_choice : write_times 9000 9000 9000 2 [] ≡ reply 25 []
neither_choice = refl

no_field_for_it : write_times 12000 12000 12600 0 [] ≡ reply 25 []
no_field_for_it = refl
