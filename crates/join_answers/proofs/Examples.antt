-- The row examples of document 01 and those of W-204, and some more, each computed from the definition. Layer 1 embeds layer 0.
-- Assumes nothing.
use Rattle.std.specs.Prelude.{Err}
use Rattle.join_answers.specs.Answer.{joined_units, Joined}
use Prim.Native.Nat.{ℕ}
use mathlib.Core.List.{[], ◌∷◌}
use mathlib.Core.Path.{◌≡◌, refl}
use lib.IntN.{pos, negsuc}
use lib.ListN.{replicate}
use Rattle.clock.specs.Clock.{lag_of}
use Rattle.closure.specs.declared.Layers.{Layers}
use Rattle.vocabulary.specs.declared.refusal.Refusal.TheVariants.{OutOfRange, TimeOrderBroken, Unpaired, UsedTwice, SpanTooWide, NoRoom, NoSuchLayer}
use Rattle.rows.specs.Table.{Table, table, most_rows}
use Rattle.assembling.specs.Assemblies.{edges_of}
use Rattle.sets.specs.Sets.{members_of}
use Rattle.unit_lists.specs.Sequence.{heads_by_layer, Lists, lists}
use Rattle.join_answers.specs.Joining.{joined_of, lists_after}
use Rattle.join_answers.specs.Meaning.{Answers}
use Rattle.join_answers.proofs.Meant.{joined_meant}

abbrev two : Layers
two = record { present = 0b11; embedded = 0 ∷ 0b1 ∷ replicate 62 0 }

abbrev one : Layers
one = record { present = 0b1; embedded = replicate 64 0 }

-- the answer where each list has as much room, and where they differ
abbrev joined_with : Layers → ℕ → Table → ℕ → Joined
joined_with layers target t room = joined_of most_rows layers target t record { numbers = room; lags = room; sizes = room }

abbrev joined_into : Layers → ℕ → Table → ℕ → ℕ → ℕ → Joined
joined_into layers target t numbers lags sizes = joined_of most_rows layers target t record { numbers = numbers; lags = lags; sizes = sizes }

-- lists that hold 7 at each of so many places
abbrev sevens : ℕ → Lists
sevens room = lists (replicate room 7) (replicate room (pos 7)) (replicate room 7)

-- 'Rows (layer, decoding, match): (0, 9000, 9000), (1, 9000, 9000), (0, 12600, 12600), (1, 12000, 12600)', with the last match time as given
abbrev rows : ℕ → Table
rows last = table (0 ∷ 1 ∷ 0 ∷ 1 ∷ []) (9000 ∷ 9000 ∷ 12600 ∷ 12000 ∷ []) (9000 ∷ 9000 ∷ 12600 ∷ last ∷ [])

-- 'Target 1: units 0 1 and 2 3, lags 0 0 and 600 0', of two rows each. A fifth place is untouched, and so are those behind the two sizes.
units : joined_with two 1 (rows 12600) 4 ≡ joined_units 0b11 2 4
unfolding edges_of members_of
units = refl

unit_lists : lists_after two (rows 12600) (joined_units 0b11 2 4) (sevens 5)
    ≡ lists (0 ∷ 1 ∷ 2 ∷ 3 ∷ 7 ∷ []) (pos 0 ∷ pos 0 ∷ pos 600 ∷ pos 0 ∷ pos 7 ∷ []) (2 ∷ 2 ∷ 7 ∷ 7 ∷ 7 ∷ [])
unfolding edges_of members_of heads_by_layer
unit_lists = refl

-- each room one short: 'each output list, the sizes too, needs one place per closure row'
no_room_for_rows : joined_into two 1 (rows 12600) 3 4 4 ≡ Err NoRoom
unfolding edges_of members_of
no_room_for_rows = refl

no_room_for_lags : joined_into two 1 (rows 12600) 4 3 4 ≡ Err NoRoom
unfolding edges_of members_of
no_room_for_lags = refl

no_room_for_sizes : joined_into two 1 (rows 12600) 4 4 3 ≡ Err NoRoom
unfolding edges_of members_of
no_room_for_sizes = refl

-- 'Last match time 12601: 15 at row 3. 9000: 16 at row 3.'
no_assembly : joined_with two 1 (rows 12601) 4 ≡ Err (Unpaired 3)
unfolding edges_of
no_assembly = refl

in_two_units : joined_with two 1 (rows 9000) 4 ≡ Err (UsedTwice 3)
unfolding edges_of members_of
in_two_units = refl

-- 'One layer, times 8589934000 then 400: accepted, distance 992. Equal times: 14.'
abbrev pair : ℕ → ℕ → Table
pair first second = table (0 ∷ 0 ∷ []) (first ∷ second ∷ []) (first ∷ second ∷ [])

across_the_wrap : joined_with one 0 (pair 8589934000 400) 2 ≡ joined_units 0b1 2 2
unfolding edges_of members_of
across_the_wrap = refl

equal_times : joined_with one 0 (pair 400 400) 2 ≡ Err (TimeOrderBroken 1)
unfolding edges_of
equal_times = refl

-- 'Second time 4294967295 after 0: accepted; 4294967296: 14.'
just_below_half : joined_with one 0 (pair 0 4294967295) 2 ≡ joined_units 0b1 2 2
unfolding edges_of members_of
just_below_half = refl

half_the_clock : joined_with one 0 (pair 0 4294967296) 2 ≡ Err (TimeOrderBroken 1)
unfolding edges_of
half_the_clock = refl

-- 'Lag of 4294967296 against 0: -4294967296', and 'a table that would show it now gets 18', before 17
least_lag : lag_of 4294967296 0 ≡ negsuc 4294967295
least_lag = refl

abbrev apart_by_half : Table
apart_by_half = table (0 ∷ 1 ∷ []) (4294967296 ∷ 0 ∷ []) (0 ∷ 4294967296 ∷ [])

too_wide_lem : joined_with two 1 apart_by_half 2 ≡ Err SpanTooWide
unfolding edges_of members_of
too_wide_lem = refl

too_wide_before_no_room : joined_with two 1 apart_by_half 0 ≡ Err SpanTooWide
unfolding edges_of members_of
too_wide_before_no_room = refl

-- one tick nearer it is accepted, and the lag is -4294967295
just_narrow : joined_with two 1 (table (0 ∷ 1 ∷ []) (4294967297 ∷ 0 ∷ []) (0 ∷ 4294967297 ∷ [])) 2 ≡ joined_units 0b11 1 2
unfolding edges_of members_of
just_narrow = refl

just_narrow_lists : lists_after two (table (0 ∷ 1 ∷ []) (4294967297 ∷ 0 ∷ []) (0 ∷ 4294967297 ∷ [])) (joined_units 0b11 1 2) (sevens 2)
    ≡ lists (0 ∷ 1 ∷ []) (negsuc 4294967294 ∷ pos 0 ∷ []) (2 ∷ 7 ∷ [])
unfolding edges_of members_of heads_by_layer
just_narrow_lists = refl

-- 'A 25-frame base with an enhancement at every second picture': it comes out at full rate, the pictures that the base alone has as units of one row
abbrev half_rate : Table
half_rate = table (0 ∷ 1 ∷ 0 ∷ 0 ∷ 1 ∷ 0 ∷ []) (0 ∷ 0 ∷ 3600 ∷ 7200 ∷ 7200 ∷ 10800 ∷ []) (0 ∷ 0 ∷ 3600 ∷ 7200 ∷ 7200 ∷ 10800 ∷ [])

half_rate_lem : joined_with two 1 half_rate 6 ≡ joined_units 0b11 4 6
unfolding edges_of members_of
half_rate_lem = refl

half_rate_lists : lists_after two half_rate (joined_units 0b11 4 6) (sevens 6)
    ≡ lists (0 ∷ 1 ∷ 2 ∷ 3 ∷ 4 ∷ 5 ∷ []) (pos 0 ∷ pos 0 ∷ pos 0 ∷ pos 0 ∷ pos 0 ∷ pos 0 ∷ []) (2 ∷ 1 ∷ 2 ∷ 1 ∷ 7 ∷ 7 ∷ [])
unfolding edges_of members_of heads_by_layer
half_rate_lists = refl

half_rate_one_short : joined_with two 1 half_rate 5 ≡ Err NoRoom
unfolding edges_of members_of
half_rate_one_short = refl

-- 11 comes before all that concerns the table
absent_target : joined_with one 1 (table (0 ∷ []) [] []) 0 ≡ Err NoSuchLayer
absent_target = refl

unequal_columns : joined_with one 0 (table (0 ∷ []) (0 ∷ []) []) 0 ≡ Err (OutOfRange 0)
unequal_columns = refl

-- one row more than there may be
more_than_most : joined_of 1 one 0 (pair 0 1) record { numbers = 2; lags = 2; sizes = 2 } ≡ Err (OutOfRange 0)
more_than_most = refl

-- 'No closure rows: zero units, accepted', and no place is asked for
no_rows : joined_with one 0 (table [] [] []) 0 ≡ joined_units 0b1 0 0
unfolding edges_of
no_rows = refl

no_closure_rows : joined_with one 0 (table (5 ∷ []) (9000 ∷ []) (9000 ∷ [])) 0 ≡ joined_units 0b1 0 0
unfolding edges_of
no_closure_rows = refl

-- the third row is of layer 0 and unclaimed, so that it heads a unit; the fourth, of a layer outside the closure, is not counted
lower_head : joined_with two 1 (table (0 ∷ 1 ∷ 0 ∷ 5 ∷ []) (9000 ∷ 9000 ∷ 12600 ∷ 1 ∷ []) (9000 ∷ 9000 ∷ 12600 ∷ 1 ∷ [])) 3 ≡ joined_units 0b11 2 3
unfolding edges_of members_of
lower_head = refl

-- an unclaimed row of the lowest layer alone
lowest_alone : joined_with two 1 (table (0 ∷ []) (5 ∷ []) (5 ∷ [])) 1 ≡ joined_units 0b11 1 1
unfolding edges_of members_of
lowest_alone = refl

-- Three layers that a fourth, of which no row came, embeds: at one time 'by lower layer'.
abbrev apart : Layers
apart = record { present = 0b1111; embedded = 0 ∷ 0 ∷ 0 ∷ 0b111 ∷ replicate 60 0 }

by_lower_layer : lists_after apart (table (2 ∷ 0 ∷ 1 ∷ []) (9 ∷ 9 ∷ 9 ∷ []) (9 ∷ 9 ∷ 9 ∷ [])) (joined_units 0b1111 3 3) (sevens 3)
    ≡ lists (1 ∷ 2 ∷ 0 ∷ []) (pos 0 ∷ pos 0 ∷ pos 0 ∷ []) (1 ∷ 1 ∷ 1 ∷ [])
unfolding edges_of members_of heads_by_layer
by_lower_layer = refl

-- by distance from the first closure row, which need not be the earliest, across the wrap both ways
first_not_earliest : lists_after apart (table (0 ∷ 1 ∷ []) (400 ∷ 8589934000 ∷ []) (0 ∷ 0 ∷ [])) (joined_units 0b1111 2 2) (sevens 2)
    ≡ lists (1 ∷ 0 ∷ []) (pos 0 ∷ pos 0 ∷ []) (1 ∷ 1 ∷ [])
unfolding edges_of members_of heads_by_layer
first_not_earliest = refl

later_across_the_wrap : lists_after apart (table (1 ∷ 0 ∷ []) (8589934000 ∷ 400 ∷ []) (0 ∷ 0 ∷ [])) (joined_units 0b1111 2 2) (sevens 2)
    ≡ lists (0 ∷ 1 ∷ []) (pos 0 ∷ pos 0 ∷ []) (1 ∷ 1 ∷ [])
unfolding edges_of members_of heads_by_layer
later_across_the_wrap = refl

-- A diamond: 3 rests on 1 and 2, each of which rests on 0. With no row of 3, those of 1 and of 2 head units that share the row of 0: 16 between heads of two layers.
abbrev arms : Layers
arms = record { present = 0b1111; embedded = 0 ∷ 0b1 ∷ 0b1 ∷ 0b110 ∷ replicate 60 0 }

shared_by_arms : joined_with arms 3 (table (0 ∷ 1 ∷ 2 ∷ []) (9 ∷ 9 ∷ 9 ∷ []) (9 ∷ 9 ∷ 9 ∷ [])) 3 ≡ Err (UsedTwice 2)
unfolding edges_of members_of
shared_by_arms = refl

claimed_by_arms : joined_with arms 3 (table (0 ∷ 1 ∷ 2 ∷ 3 ∷ []) (9 ∷ 9 ∷ 9 ∷ 9 ∷ []) (9 ∷ 9 ∷ 9 ∷ 9 ∷ [])) 4 ≡ joined_units 0b1111 1 4
unfolding edges_of members_of
claimed_by_arms = refl

-- 2 rests on 1 and on 0, and 1 on 0, so that the row of 0 has to meet two edges. The row of 2 asks for 9000 below it, that of 1 for the time given. The row of
-- 0 at 8000 is claimed where it is asked for, and else heads a unit.
abbrev three : Layers
three = record { present = 0b111; embedded = 0 ∷ 0b1 ∷ 0b11 ∷ replicate 61 0 }

abbrev diamond : ℕ → Table
diamond asked = table (0 ∷ 0 ∷ 1 ∷ 2 ∷ []) (8000 ∷ 9000 ∷ 9000 ∷ 9500 ∷ []) (8000 ∷ 9000 ∷ asked ∷ 9000 ∷ [])

both_edges_met : joined_with three 2 (diamond 9000) 4 ≡ joined_units 0b111 2 4
unfolding edges_of members_of
both_edges_met = refl

both_edges_met_lists : lists_after three (diamond 9000) (joined_units 0b111 2 4) (sevens 4)
    ≡ lists (0 ∷ 1 ∷ 2 ∷ 3 ∷ []) (pos 0 ∷ negsuc 499 ∷ negsuc 499 ∷ pos 0 ∷ []) (1 ∷ 3 ∷ 7 ∷ 7 ∷ [])
unfolding edges_of members_of heads_by_layer
both_edges_met_lists = refl

one_edge_not_met : joined_with three 2 (diamond 8000) 4 ≡ Err (Unpaired 3)
unfolding edges_of
one_edge_not_met = refl

-- The half_rate_lem base once more, as the relation has it: whatever else is said of these rows and lists is wrong.
half_rate_meant : Answers most_rows two 1 half_rate (sevens 6) (joined_units 0b11 4 6)
    (lists (0 ∷ 1 ∷ 2 ∷ 3 ∷ 4 ∷ 5 ∷ []) (pos 0 ∷ pos 0 ∷ pos 0 ∷ pos 0 ∷ pos 0 ∷ pos 0 ∷ []) (2 ∷ 1 ∷ 2 ∷ 1 ∷ 7 ∷ 7 ∷ []))
unfolding edges_of members_of heads_by_layer
half_rate_meant = joined_meant most_rows two 1 half_rate (sevens 6)
