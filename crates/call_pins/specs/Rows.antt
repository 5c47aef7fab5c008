-- ROWS JOINED TO UNITS, pinned: derived by hand from document 01 and W-204 of document 02, each number given and narrowly not given; and what the three lists then hold.
-- Assumes nothing.
use Rattle.join_answers.specs.Answer.{joined_units, Joined}
use Rattle.std.specs.Prelude.{ℕ, List, [], ◌∷◌, map, ◌≡◌, refl, pos, negsuc, Err}
use Rattle.combinators.specs.Padding.{pad_to}
use Rattle.vocabulary.specs.declared.stream_types.Reading.TheVariants.{Edition2009, Edition2015}
use Rattle.vocabulary.specs.declared.refusal.Refusal.TheVariants.{NoSuchLayer, EmbeddedLayerAbsent, OutOfRange, TimeOrderBroken, Unpaired, UsedTwice, SpanTooWide, NoRoom}
use Rattle.closure.specs.declared.Layers.{Layers}
use Rattle.assembling.specs.Assemblies.{edges_of}
use Rattle.sets.specs.Sets.{members_of}
use Rattle.rows.specs.Table.{Table, table, most_rows}
use Rattle.unit_lists.specs.Sequence.{heads_by_layer, Lists, lists}
use Rattle.join_answers.specs.Joining.{Room, room_of, joined_of, lists_after}
use Rattle.importing.specs.Importing.{import_of, imported_lists}
use Rattle.call_pins.specs.Loops.{distinct}

-- a question: which layers there are, what each embeds, the target, the rows (layer, decoding, match) and the places of the three lists
pub record Case : Type 0 where
  pub given : Layers
  pub target : ℕ
  pub rows : Table
  pub room : Room
  pub answer : Joined

abbrev pub case : Layers → ℕ → Table → ℕ → ℕ → ℕ → Joined → Case
case given target rows numbers lags sizes answer =
    record { given = given; target = target; rows = rows; room = record { numbers = numbers; lags = lags; sizes = sizes }; answer = answer }

abbrev pub layers : ℕ → List ℕ → Layers
layers present embedded = record { present = present; embedded = pad_to 64 0 embedded }

abbrev pub tables : List Case
tables =
    -- 11: no layer 2, and one; target 64, which is 0 in six bits
    case (layers 0b11 (0 ∷ 0b1 ∷ [])) 2 (table (0 ∷ []) (9000 ∷ []) (9000 ∷ [])) 4 4 4 (Err NoSuchLayer)
    ∷ case (layers 0b111 (0 ∷ 0b1 ∷ 0b1 ∷ [])) 2 (table (0 ∷ 2 ∷ []) (9000 ∷ 9000 ∷ []) (9000 ∷ 9000 ∷ [])) 4 4 4 (joined_units 0b101 1 2)
    ∷ case (layers 0b1 []) 64 (table [] [] []) 4 4 4 (Err NoSuchLayer)
    -- 12: layer 1 absent, and there; two absent, of which the lowest is named
    ∷ case (layers 0b101 (0 ∷ 0 ∷ 0b10 ∷ [])) 2 (table (2 ∷ []) (5 ∷ []) (5 ∷ [])) 4 4 4 (Err (EmbeddedLayerAbsent (record { 0 = 1 })))
    ∷ case (layers 0b111 (0 ∷ 0 ∷ 0b10 ∷ [])) 2 (table (1 ∷ 2 ∷ []) (5 ∷ 5 ∷ []) (5 ∷ 5 ∷ [])) 4 4 4 (joined_units 0b110 1 2)
    ∷ case (layers 0b110000 (0 ∷ 0 ∷ 0 ∷ 0 ∷ 0 ∷ 0b11100 ∷ [])) 5 (table [] [] []) 4 4 4 (Err (EmbeddedLayerAbsent (record { 0 = 2 })))
    -- 13: a match time too few; layer index 63 and 64; decoding and match time 8589934591 and 8589934592
    ∷ case (layers 0b1 []) 0 (table (0 ∷ 0 ∷ []) (9000 ∷ 12600 ∷ []) (9000 ∷ [])) 4 4 4 (Err (OutOfRange 0))
    ∷ case (layers 0b1 []) 0 (table (0 ∷ 0 ∷ []) (9000 ∷ 12600 ∷ []) (9000 ∷ 12600 ∷ [])) 4 4 4 (joined_units 0b1 2 2)
    ∷ case (layers 0b1 []) 0 (table (0 ∷ 63 ∷ []) (5 ∷ 6 ∷ []) (5 ∷ 6 ∷ [])) 4 4 4 (joined_units 0b1 1 1)
    ∷ case (layers 0b1 []) 0 (table (0 ∷ 64 ∷ []) (5 ∷ 6 ∷ []) (5 ∷ 6 ∷ [])) 4 4 4 (Err (OutOfRange 1))
    ∷ case (layers 0b1 []) 0 (table (0 ∷ []) (8589934591 ∷ []) (0 ∷ [])) 4 4 4 (joined_units 0b1 1 1)
    ∷ case (layers 0b1 []) 0 (table (0 ∷ []) (8589934592 ∷ []) (0 ∷ [])) 4 4 4 (Err (OutOfRange 0))
    ∷ case (layers 0b1 []) 0 (table (0 ∷ []) (0 ∷ []) (8589934591 ∷ [])) 4 4 4 (joined_units 0b1 1 1)
    ∷ case (layers 0b1 []) 0 (table (0 ∷ []) (0 ∷ []) (8589934592 ∷ [])) 4 4 4 (Err (OutOfRange 0))
    -- 14: a time one later, and the same; 4294967295 after the first, and 4294967296; outside the closure nothing is judged
    ∷ case (layers 0b1 []) 0 (table (0 ∷ 0 ∷ []) (400 ∷ 401 ∷ []) (400 ∷ 401 ∷ [])) 4 4 4 (joined_units 0b1 2 2)
    ∷ case (layers 0b1 []) 0 (table (0 ∷ 0 ∷ []) (400 ∷ 400 ∷ []) (400 ∷ 400 ∷ [])) 4 4 4 (Err (TimeOrderBroken 1))
    ∷ case (layers 0b1 []) 0 (table (0 ∷ 0 ∷ []) (0 ∷ 4294967295 ∷ []) (0 ∷ 0 ∷ [])) 4 4 4 (joined_units 0b1 2 2)
    ∷ case (layers 0b1 []) 0 (table (0 ∷ 0 ∷ []) (0 ∷ 4294967296 ∷ []) (0 ∷ 0 ∷ [])) 4 4 4 (Err (TimeOrderBroken 1))
    ∷ case (layers 0b11 (0 ∷ 0b1 ∷ [])) 0 (table (0 ∷ 1 ∷ 1 ∷ []) (5 ∷ 7 ∷ 7 ∷ []) (5 ∷ 7 ∷ 7 ∷ [])) 4 4 4 (joined_units 0b1 1 1)
    -- 15 and 16: the second target row named by the second base row, by none, and by the first
    ∷ case (layers 0b11 (0 ∷ 0b1 ∷ [])) 1 (table (0 ∷ 1 ∷ 0 ∷ 1 ∷ []) (9000 ∷ 9000 ∷ 12600 ∷ 12000 ∷ []) (9000 ∷ 9000 ∷ 12600 ∷ 12600 ∷ [])) 4 4 4 (joined_units 0b11 2 4)
    ∷ case (layers 0b11 (0 ∷ 0b1 ∷ [])) 1 (table (0 ∷ 1 ∷ 0 ∷ 1 ∷ []) (9000 ∷ 9000 ∷ 12600 ∷ 12000 ∷ []) (9000 ∷ 9000 ∷ 12600 ∷ 12601 ∷ [])) 4 4 4 (Err (Unpaired 3))
    ∷ case (layers 0b11 (0 ∷ 0b1 ∷ [])) 1 (table (0 ∷ 1 ∷ 0 ∷ 1 ∷ []) (9000 ∷ 9000 ∷ 12600 ∷ 12000 ∷ []) (9000 ∷ 9000 ∷ 12600 ∷ 9000 ∷ [])) 4 4 4 (Err (UsedTwice 3))
    -- 17: one place too few in any of the lists
    ∷ case (layers 0b11 (0 ∷ 0b1 ∷ [])) 1 (table (0 ∷ 1 ∷ 0 ∷ 1 ∷ []) (9000 ∷ 9000 ∷ 12600 ∷ 12000 ∷ []) (9000 ∷ 9000 ∷ 12600 ∷ 12600 ∷ [])) 3 4 4 (Err NoRoom)
    ∷ case (layers 0b11 (0 ∷ 0b1 ∷ [])) 1 (table (0 ∷ 1 ∷ 0 ∷ 1 ∷ []) (9000 ∷ 9000 ∷ 12600 ∷ 12000 ∷ []) (9000 ∷ 9000 ∷ 12600 ∷ 12600 ∷ [])) 4 3 4 (Err NoRoom)
    ∷ case (layers 0b11 (0 ∷ 0b1 ∷ [])) 1 (table (0 ∷ 1 ∷ 0 ∷ 1 ∷ []) (9000 ∷ 9000 ∷ 12600 ∷ 12000 ∷ []) (9000 ∷ 9000 ∷ 12600 ∷ 12600 ∷ [])) 4 4 3 (Err NoRoom)
    -- 18: the base row 4294967295 ahead of the target row, and 4294967296; before 17
    ∷ case (layers 0b11 (0 ∷ 0b1 ∷ [])) 1 (table (0 ∷ 1 ∷ []) (4294967295 ∷ 0 ∷ []) (0 ∷ 4294967295 ∷ [])) 4 4 4 (joined_units 0b11 1 2)
    ∷ case (layers 0b11 (0 ∷ 0b1 ∷ [])) 1 (table (0 ∷ 1 ∷ []) (4294967296 ∷ 0 ∷ []) (0 ∷ 4294967296 ∷ [])) 0 0 0 (Err SpanTooWide)
    -- a picture of the base alone heads a unit, and where both rows of the base are claimed by one row each, there is none
    ∷ case (layers 0b11 (0 ∷ 0b1 ∷ [])) 1 (table (0 ∷ 1 ∷ 0 ∷ []) (0 ∷ 0 ∷ 3600 ∷ []) (0 ∷ 0 ∷ 3600 ∷ [])) 4 4 4 (joined_units 0b11 2 3)
    ∷ case (layers 0b11 (0 ∷ 0b1 ∷ [])) 1 (table (0 ∷ 1 ∷ 0 ∷ 1 ∷ []) (0 ∷ 0 ∷ 3600 ∷ 10 ∷ []) (0 ∷ 0 ∷ 3600 ∷ 3600 ∷ [])) 4 4 4 (joined_units 0b11 2 4)
    -- an assembly meets every edge: layer 3 rests on 0 and on 1, and 1 on 0; a row of 0 that only layer 1 names, and one that both name
    ∷ case (layers 0b1011 (0 ∷ 0b1 ∷ 0 ∷ 0b11 ∷ [])) 3 (table (0 ∷ 1 ∷ 3 ∷ 0 ∷ []) (500 ∷ 510 ∷ 530 ∷ 600 ∷ []) (500 ∷ 500 ∷ 510 ∷ 600 ∷ [])) 4 4 4 (Err (Unpaired 2))
    ∷ case (layers 0b1011 (0 ∷ 0b1 ∷ 0 ∷ 0b11 ∷ [])) 3 (table (0 ∷ 1 ∷ 3 ∷ 0 ∷ []) (510 ∷ 510 ∷ 530 ∷ 600 ∷ []) (510 ∷ 510 ∷ 510 ∷ 600 ∷ [])) 4 4 4 (joined_units 0b1011 2 4)
    ∷ []

-- In the loop `distinct` layer 9 rests on layer 7: rows 0 and 1 are a unit, and rows 2 and 3 of layer 7 each head one.
abbrev pub spare : Table
spare = table (7 ∷ 9 ∷ 7 ∷ 7 ∷ []) (500 ∷ 510 ∷ 600 ∷ 700 ∷ []) (500 ∷ 500 ∷ 600 ∷ 700 ∷ [])

abbrev pub fives : Lists
fives = lists (5 ∷ 5 ∷ 5 ∷ 5 ∷ 5 ∷ []) (pos 5 ∷ pos 5 ∷ pos 5 ∷ pos 5 ∷ []) (5 ∷ 5 ∷ 5 ∷ 5 ∷ [])

abbrev pub spare_units : Lists
spare_units = lists (0 ∷ 1 ∷ 2 ∷ 3 ∷ 5 ∷ []) (negsuc 9 ∷ pos 0 ∷ pos 0 ∷ pos 0 ∷ []) (2 ∷ 1 ∷ 1 ∷ 5 ∷ [])

-- Layers 0 and 1 rest on nothing, and 2 on both; their rows come later first. The first row of layer 1 is the first closure row.
abbrev crossed : Table
crossed = table (1 ∷ 0 ∷ 1 ∷ 0 ∷ []) (20 ∷ 10 ∷ 30 ∷ 30 ∷ []) (0 ∷ 0 ∷ 0 ∷ 0 ∷ [])

pub record RowsPinned : Type 0 where
  pub joined : map (λ (c : Case). joined_of most_rows c.given c.target c.rows c.room) tables ≡ map (λ (c : Case). c.answer) tables
  pub imported : import_of Edition2015 distinct 9 spare (room_of fives) ≡ joined_units 0b1010000000 3 4
  pub imported_in_2009 : import_of Edition2009 distinct 9 spare (room_of fives) ≡ joined_units 0b1010000000 3 4
  pub after : imported_lists Edition2015 distinct spare (joined_units 0b1010000000 3 4) fives ≡ spare_units
  -- by time, and at one time by layer
  pub in_order : lists_after (layers 0b111 (0 ∷ 0 ∷ 0b11 ∷ [])) crossed (joined_units 0b111 4 4) fives
      ≡ lists (1 ∷ 0 ∷ 3 ∷ 2 ∷ 5 ∷ []) (pos 0 ∷ pos 0 ∷ pos 0 ∷ pos 0 ∷ []) (1 ∷ 1 ∷ 1 ∷ 1 ∷ [])

pub rows_pinned : RowsPinned
unfolding edges_of members_of heads_by_layer
rows_pinned = record { joined = refl; imported = refl; imported_in_2009 = refl; after = refl; in_order = refl }
