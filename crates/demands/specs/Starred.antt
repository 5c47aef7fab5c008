-- THE STARRED CASES of document 01, 'Worked examples', all of them as one table under one statement, `starred_hold`. Each case is a question
-- to one of the calls, with the answer that document 01 gives.
-- Assumes nothing.
use Rattle.join_answers.specs.Answer.{joined_units, Joined}
use Rattle.std.specs.Prelude.{ℕ, Bool, false, List, [], ◌∷◌, ◌≡◌, refl, ℤ, pos, negsuc, length, replicate, Err, Ok}
use Rattle.vocabulary.specs.declared.stream_types.Reading.{Reading}
use Rattle.vocabulary.specs.declared.stream_types.Reading.TheVariants.{Edition2009, Edition2015}
use Rattle.vocabulary.specs.declared.refusal.Refusal.TheVariants.{DoesNotFit, NoSuchLayer, TimeOrderBroken, Unpaired, UsedTwice, SpanTooWide}
use Rattle.es_loop.specs.declared.reader.LoopRead.{LoopRead}
use Rattle.es_loop.specs.Reading.{loop_read, refused_with, accepted}
use Rattle.es_loop.specs.Examples.{loop_a}
use Rattle.closure.specs.Answer.{Closure}
use Rattle.loop_layers.specs.Closures.{loop_closure}
use Rattle.clock.specs.Clock.{distance_of, lag_of}
use Rattle.stamps.specs.declared.Times.{Times}
use Rattle.pes_reader.specs.Reading.{read_of}
use Rattle.pes_writer.specs.Writing.{header_of, write_of, buffer_of}
use Rattle.rows.specs.Table.{Table, table}
use Rattle.assembling.specs.Assemblies.{edges_of}
use Rattle.sets.specs.Sets.{members_of}
use Rattle.unit_lists.specs.Sequence.{heads_by_layer, Lists, lists}
use Rattle.join_answers.specs.Joining.{room_of}
use Rattle.importing.specs.Importing.{import_of, imported_lists}

-- a question and its answer
pub data Case : Type 0 where
  loop_answers : Reading → List ℕ → LoopRead → Case
  closure_is : Reading → List ℕ → ℕ → Closure → Case
  import_answers : Reading → List ℕ → ℕ → Table → Joined → Case
  lists_hold : Reading → List ℕ → ℕ → Table → Lists → Case
  distance_is : ℕ → ℕ → ℕ → Case
  lag_is : ℕ → ℕ → ℤ → Case
  times_stand_in : Times → Bool → List ℕ → Case

-- what it says of the call: the three lists of an import have room for four numbers each, and the header of times is written and read
abbrev four : Lists
four = lists (7 ∷ 7 ∷ 7 ∷ 7 ∷ []) (pos 7 ∷ pos 7 ∷ pos 7 ∷ pos 7 ∷ []) (7 ∷ 7 ∷ 7 ∷ 7 ∷ [])

abbrev pub Holds : Case → Type 0
Holds (loop_answers reading bytes answer) = loop_read reading bytes ≡ answer
Holds (closure_is reading bytes target answer) = loop_closure reading bytes target ≡ answer
Holds (import_answers reading bytes target t answer) = import_of reading bytes target t (room_of four) ≡ answer
Holds (lists_hold reading bytes target t after) = imported_lists reading bytes t (import_of reading bytes target t (room_of four)) four ≡ after
Holds (distance_is a b distance) = distance_of a b ≡ distance
Holds (lag_is time target lag) = lag_of time target ≡ lag
Holds (times_stand_in times with_tref bytes) =
    (write_of times with_tref (length bytes) ≡ Ok (length bytes))
    × (buffer_of (Ok (length bytes)) (header_of times with_tref) (replicate (length bytes) 7) ≡ bytes)
    × (read_of bytes ≡ Ok (record { times = times; tref_sent = with_tref; end = length bytes }))

-- of a whole table: each of its cases
abbrev pub AllHold : List Case → Type 0
AllHold [] = Unit {0}
AllHold (case ∷ cases) = Holds case × AllHold cases

-- 'Rows (layer, decoding, match): (0, 9000, 9000), (1, 9000, 9000), (0, 12600, 12600), (1, 12000, 12600)', with the last match time as given
abbrev pub rows : ℕ → Table
rows last = table (0 ∷ 1 ∷ 0 ∷ 1 ∷ []) (9000 ∷ 9000 ∷ 12600 ∷ 12000 ∷ []) (9000 ∷ 9000 ∷ 12600 ∷ last ∷ [])

-- 'One layer': two rows of layer 0, which rests on nothing
abbrev pub pair : ℕ → ℕ → Table
pair first second = table (0 ∷ 0 ∷ []) (first ∷ second ∷ []) (first ∷ second ∷ [])

abbrev pub starred : List Case
starred =
    -- 'Target 1: closure 0, 1 in both readings.'
    closure_is Edition2009 loop_a 1 (Ok 0b011)
    ∷ closure_is Edition2015 loop_a 1 (Ok 0b011)
    -- 'Target 2: closure 0, 2 in 2015; 11 in 2009.'
    ∷ closure_is Edition2015 loop_a 2 (Ok 0b101)
    ∷ closure_is Edition2009 loop_a 2 (Err NoSuchLayer)
    -- 'Empty loop: accepted, target 0 gives 11.'
    ∷ loop_answers Edition2009 [] (accepted [])
    ∷ loop_answers Edition2015 [] (accepted [])
    ∷ closure_is Edition2009 [] 0 (Err NoSuchLayer)
    ∷ closure_is Edition2015 [] 0 (Err NoSuchLayer)
    -- '4 bytes: 2 at entry 0.'
    ∷ loop_answers Edition2009 (0x1B ∷ 0xE1 ∷ 0x00 ∷ 0xF0 ∷ []) (refused_with (DoesNotFit 0))
    ∷ loop_answers Edition2015 (0x1B ∷ 0xE1 ∷ 0x00 ∷ 0xF0 ∷ []) (refused_with (DoesNotFit 0))
    -- 'Target 1: units 0 1 and 2 3, lags 0 0 and 600 0', and by W-204 the size of each, 2, in place of the left-out count
    ∷ import_answers Edition2015 loop_a 1 (rows 12600) (joined_units 0b011 2 4)
    ∷ lists_hold Edition2015 loop_a 1 (rows 12600) (lists (0 ∷ 1 ∷ 2 ∷ 3 ∷ []) (pos 0 ∷ pos 0 ∷ pos 600 ∷ pos 0 ∷ []) (2 ∷ 2 ∷ 7 ∷ 7 ∷ []))
    -- 'Last match time 12601: 15 at row 3. 9000: 16 at row 3.'
    ∷ import_answers Edition2015 loop_a 1 (rows 12601) (Err (Unpaired 3))
    ∷ import_answers Edition2015 loop_a 1 (rows 9000) (Err (UsedTwice 3))
    -- 'One layer, times 8589934000 then 400: accepted, distance 992. Equal times: 14.'
    ∷ import_answers Edition2015 loop_a 0 (pair 8589934000 400) (joined_units 0b001 2 2)
    ∷ distance_is 8589934000 400 992
    ∷ import_answers Edition2015 loop_a 0 (pair 400 400) (Err (TimeOrderBroken 1))
    -- 'Second time 4294967295 after 0: accepted; 4294967296: 14.'
    ∷ import_answers Edition2015 loop_a 0 (pair 0 4294967295) (joined_units 0b001 2 2)
    ∷ import_answers Edition2015 loop_a 0 (pair 0 4294967296) (Err (TimeOrderBroken 1))
    -- 'Lag of 4294967296 against 0: -4294967296.'
    ∷ lag_is 4294967296 0 (negsuc 4294967295)
    -- W-204: 'stands as a value of the lag rule alone, and a table that would show it now gets 18'
    ∷ import_answers Edition2015 loop_a 1 (table (0 ∷ 1 ∷ []) (4294967296 ∷ 0 ∷ []) (0 ∷ 4294967296 ∷ [])) (Err SpanTooWide)
    -- 'PTS 9000 alone: 00 00 01 E0 00 00 84 80 05 21 00 01 46 51.'
    ∷ times_stand_in (record { pts = 9000; decoding = 9000; matching = 9000 }) false
    (0x00 ∷ 0x00 ∷ 0x01 ∷ 0xE0 ∷ 0x00 ∷ 0x00 ∷ 0x84 ∷ 0x80 ∷ 0x05 ∷ 0x21 ∷ 0x00 ∷ 0x01 ∷ 0x46 ∷ 0x51 ∷ [])
    ∷ []

-- THE STATEMENT: every starred case holds.
pub starred_hold : AllHold starred
unfolding edges_of members_of heads_by_layer
starred_hold = (refl, (refl, (refl, (refl, (refl, (refl, (refl, (refl, (refl, (refl, (refl, (refl, (refl, (refl, (refl, (refl, (refl, (refl, (refl, (refl, (refl, ((refl, refl, refl), tt))))))))))))))))))))))
