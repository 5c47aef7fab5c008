-- Document 01's starred examples through the whole import, each computed from the bytes of a loop and the rows of a table.
-- Assumes nothing.
use Rattle.std.specs.Prelude.{Err}
use Rattle.join_answers.specs.Answer.{joined_units}
use Prim.Native.Nat.{ℕ}
use mathlib.Core.List.{[], ◌∷◌}
use mathlib.Core.Path.{◌≡◌, refl}
use lib.IntN.{pos}
use Rattle.vocabulary.specs.declared.stream_types.Reading.TheVariants.{Edition2009, Edition2015}
use Rattle.vocabulary.specs.declared.refusal.Refusal.TheVariants.{DoesNotFit, NoSuchLayer, OutOfRange, TimeOrderBroken, Unpaired, UsedTwice, SpanTooWide, NoRoom}
use Rattle.es_loop.specs.Examples.{loop_a}
use Rattle.rows.specs.Table.{Table, table}
use Rattle.assembling.specs.Assemblies.{edges_of}
use Rattle.sets.specs.Sets.{members_of}
use Rattle.unit_lists.specs.Sequence.{heads_by_layer, lists}
use Rattle.join_answers.specs.Joining.{Room}
use Rattle.importing.specs.Importing.{import_of, imported_lists}

abbrev room : ℕ → ℕ → ℕ → Room
room numbers lags sizes = record { numbers = numbers; lags = lags; sizes = sizes }

-- 'Rows (layer, decoding, match): (0, 9000, 9000), (1, 9000, 9000), (0, 12600, 12600), (1, 12000, 12600)', with the last match time as given
abbrev rows : ℕ → Table
rows last = table (0 ∷ 1 ∷ 0 ∷ 1 ∷ []) (9000 ∷ 9000 ∷ 12600 ∷ 12000 ∷ []) (9000 ∷ 9000 ∷ 12600 ∷ last ∷ [])

-- 'Target 1: closure 0, 1 in both readings.' 'Target 1: units 0 1 and 2 3, lags 0 0 and 600 0', two rows each.
units_in_2009 : import_of Edition2009 loop_a 1 (rows 12600) (room 5 4 6) ≡ joined_units 0b011 2 4
unfolding edges_of members_of heads_by_layer
units_in_2009 = refl

units_in_2015 : import_of Edition2015 loop_a 1 (rows 12600) (room 5 4 6) ≡ joined_units 0b011 2 4
unfolding edges_of members_of heads_by_layer
units_in_2015 = refl

-- The places beyond are untouched.
unit_lists : imported_lists Edition2015 loop_a (rows 12600) (joined_units 0b011 2 4)
    (lists (7 ∷ 7 ∷ 7 ∷ 7 ∷ 7 ∷ []) (pos 7 ∷ pos 7 ∷ pos 7 ∷ pos 7 ∷ []) (7 ∷ 7 ∷ 7 ∷ 7 ∷ []))
    ≡ lists (0 ∷ 1 ∷ 2 ∷ 3 ∷ 7 ∷ []) (pos 0 ∷ pos 0 ∷ pos 600 ∷ pos 0 ∷ []) (2 ∷ 2 ∷ 7 ∷ 7 ∷ [])
unfolding edges_of members_of heads_by_layer
unit_lists = refl

-- 'Last match time 12601: 15 at row 3. 9000: 16 at row 3.'
no_assembly : import_of Edition2015 loop_a 1 (rows 12601) (room 4 4 4) ≡ Err (Unpaired 3)
unfolding edges_of members_of heads_by_layer
no_assembly = refl

in_two_units : import_of Edition2015 loop_a 1 (rows 9000) (room 4 4 4) ≡ Err (UsedTwice 3)
unfolding edges_of members_of heads_by_layer
in_two_units = refl

-- 'Target 2: closure 0, 2 in 2015; 11 in 2009.' The table has no row of layer 2: both rows of layer 0 head units of their own.
target_2_in_2015 : import_of Edition2015 loop_a 2 (rows 12600) (room 2 2 2) ≡ joined_units 0b101 2 2
unfolding edges_of members_of heads_by_layer
target_2_in_2015 = refl

target_2_in_2009 : import_of Edition2009 loop_a 2 (rows 12600) (room 0 0 0) ≡ Err NoSuchLayer
target_2_in_2009 = refl

-- 'Empty loop: accepted, target 0 gives 11.' So it does whatever the table is: these columns are unequal.
empty_loop : import_of Edition2015 [] 0 (table (0 ∷ []) [] []) (room 0 0 0) ≡ Err NoSuchLayer
empty_loop = refl

-- '4 bytes: 2 at entry 0', before all that concerns the target and the table
four_bytes : import_of Edition2015 (0x1B ∷ 0xE1 ∷ 0x00 ∷ 0xF0 ∷ []) 64 (table (0 ∷ []) [] []) (room 0 0 0) ≡ Err (DoesNotFit 0)
four_bytes = refl

-- 'One layer, times 8589934000 then 400: accepted, distance 992. Equal times: 14.' Layer 0 of loop A embeds nothing.
abbrev pair : ℕ → ℕ → Table
pair first second = table (0 ∷ 0 ∷ []) (first ∷ second ∷ []) (first ∷ second ∷ [])

across_the_wrap : import_of Edition2015 loop_a 0 (pair 8589934000 400) (room 2 2 2) ≡ joined_units 0b1 2 2
unfolding edges_of members_of heads_by_layer
across_the_wrap = refl

equal_times : import_of Edition2015 loop_a 0 (pair 400 400) (room 2 2 2) ≡ Err (TimeOrderBroken 1)
equal_times = refl

-- 'Second time 4294967295 after 0: accepted; 4294967296: 14.'
just_below_half : import_of Edition2015 loop_a 0 (pair 0 4294967295) (room 2 2 2) ≡ joined_units 0b1 2 2
unfolding edges_of members_of heads_by_layer
just_below_half = refl

half_the_clock : import_of Edition2015 loop_a 0 (pair 0 4294967296) (room 2 2 2) ≡ Err (TimeOrderBroken 1)
half_the_clock = refl

-- 'Lag of 4294967296 against 0: -4294967296': 'a table that would show it now gets 18'
least_lag : import_of Edition2015 loop_a 1 (table (0 ∷ 1 ∷ []) (4294967296 ∷ 0 ∷ []) (0 ∷ 4294967296 ∷ [])) (room 2 2 2) ≡ Err SpanTooWide
unfolding edges_of members_of heads_by_layer
least_lag = refl

-- 13 and 17 from the bytes: a row out of range, and each room one short
row_out_of_range : import_of Edition2015 loop_a 1 (table (0 ∷ 64 ∷ []) (0 ∷ 0 ∷ []) (0 ∷ 0 ∷ [])) (room 2 2 2) ≡ Err (OutOfRange 1)
row_out_of_range = refl

no_room_for_rows : import_of Edition2015 loop_a 1 (rows 12600) (room 3 4 4) ≡ Err NoRoom
unfolding edges_of members_of heads_by_layer
no_room_for_rows = refl

no_room_for_lags : import_of Edition2015 loop_a 1 (rows 12600) (room 4 3 4) ≡ Err NoRoom
unfolding edges_of members_of heads_by_layer
no_room_for_lags = refl

no_room_for_sizes : import_of Edition2015 loop_a 1 (rows 12600) (room 4 4 3) ≡ Err NoRoom
unfolding edges_of members_of heads_by_layer
no_room_for_sizes = refl
