-- THE PINS: beside the starred cases, cases that were derived by hand, all of them under one statement, `pins_hold`. A meaning rests on definitions; a
-- definition that is changed together with the code is held by these. The words and the records are pinned in `word_pins` and `record_pins`, the calls in
-- `call_pins`, and the functions for C here, by the numbers that they answer.
-- Assumes nothing.
use Rattle.std.specs.Prelude.{ℕ, ◌+◌, ◌*◌, List, [], ◌∷◌, ◌++◌, ◌≡◌, refl, pos, take, drop, replicate}
use Rattle.sets.specs.Sets.{size, members_of}
use Rattle.assembling.specs.Assemblies.{edges_of}
use Rattle.rows.specs.Table.{Table, table}
use Rattle.entry_rows.specs.Rows.{head_of, tail_of, row_too_wide, entry_in}
use Rattle.c_answers.specs.Answers.{Reply, reply}
use Rattle.thoquenry.specs.Loops.{read_loop, write_loop, closure_call}
use Rattle.thoquenry.specs.Times.{read_times}
use Rattle.unit_lists.specs.Sequence.{heads_by_layer, Lists, lists}
use Rattle.thoquenry_joins.specs.Joins.{JoinReply, join_call, join_long_call, import_call}
use Rattle.word_pins.specs.Words.{WordsPinned, words_pinned}
use Rattle.record_pins.specs.Records.{RecordsPinned, records_pinned}
use Rattle.call_pins.specs.Loops.{distinct, LoopsPinned, loops_pinned}
use Rattle.call_pins.specs.Times.{TimesPinned, times_pinned}
use Rattle.call_pins.specs.Rows.{spare, fives, spare_units, RowsPinned, rows_pinned}

-- what thq_join, thq_join_long and thq_import leave: the number, the row numbers with their lags and the sizes, and the summary
abbrev pub leaves : ℕ → Lists → List ℕ → JoinReply
leaves answer after summary = record { answer = answer; after = after; summary = summary }

abbrev fours : Lists
fours = lists (5 ∷ 5 ∷ 5 ∷ 5 ∷ []) (pos 5 ∷ pos 5 ∷ pos 5 ∷ pos 5 ∷ []) (5 ∷ 5 ∷ 5 ∷ 5 ∷ [])

-- two layers, the second on the first, and four rows, the last with this match time
abbrev rows_up_to : ℕ → Table
rows_up_to last = table (0 ∷ 1 ∷ 0 ∷ 1 ∷ []) (9000 ∷ 9000 ∷ 12600 ∷ 12000 ∷ []) (9000 ∷ 9000 ∷ 12600 ∷ last ∷ [])

abbrev pub joins : ℕ → List ℕ → JoinReply
joins last summary = join_call 0b11 (0 ∷ 0b1 ∷ []) 1 (rows_up_to last) fours summary

-- a plain 0x1B of PID 256 and a plain 0x20 of PID 257, and their rows of numbers
abbrev two_views : List ℕ
two_views = 0x1B ∷ 0xE1 ∷ 0x00 ∷ 0xF0 ∷ 0x00 ∷ 0x20 ∷ 0xE1 ∷ 0x01 ∷ 0xF0 ∷ 0x00 ∷ []

abbrev view_rows : List ℕ
view_rows = 27 ∷ 256 ∷ 3 ∷ replicate 77 0 ++ 32 ∷ 257 ∷ 3 ∷ replicate 77 0

pub record ForCPinned : Type 0 where
  -- number and place, or 0 and a count; the buffers untouched after a refusal, and beyond what was written
  pub closure : closure_call 2015 distinct 12 (5 ∷ 5 ∷ []) ≡ reply (0 + 256 * 3) (0b1001010000000 ∷ 5 ∷ [])
  pub no_such_layer : closure_call 2009 distinct 12 (5 ∷ 5 ∷ []) ≡ reply (11 + 256 * 0) (5 ∷ 5 ∷ [])
  pub no_room : closure_call 2015 distinct 12 [] ≡ reply (17 + 256 * 0) []
  pub no_call : closure_call 2014 distinct 12 (5 ∷ []) ≡ reply (255 + 256 * 0) (5 ∷ [])
  -- the 80 numbers of an entry, in the header's order
  pub entries_read : (read_loop 2015 distinct (replicate 240 5)).answer ≡ 0 + 256 * 3
  pub hierarchy_row : take 17 (drop 80 (read_loop 2015 distinct (replicate 240 5)).buffer)
      ≡ 31 ∷ 300 ∷ 1 ∷ 1 ∷ 1 ∷ 0 ∷ 1 ∷ 1 ∷ 9 ∷ 0 ∷ 7 ∷ 42 ∷ 0 ∷ 0 ∷ 0 ∷ 0 ∷ 0 ∷ []
  pub extension_row : take 19 (drop 160 (read_loop 2015 distinct (replicate 240 5)).buffer)
      ≡ 41 ∷ 301 ∷ 2 ∷ 0 ∷ 0 ∷ 0 ∷ 0 ∷ 0 ∷ 12 ∷ 1 ∷ 0 ∷ 47 ∷ 0xABCD ∷ 6 ∷ 33 ∷ 2 ∷ 9 ∷ 7 ∷ 0 ∷ []
  -- the same numbers written, and a `record` above 3
  pub entries_written : write_loop (read_loop 2015 distinct (replicate 240 5)).buffer (replicate 40 5) ≡ reply (0 + 256 * 38) (distinct ++ 5 ∷ 5 ∷ [])
  pub record_too_wide : write_loop (15 ∷ 300 ∷ 4 ∷ replicate 77 0) (5 ∷ []) ≡ reply (25 + 256 * 0) (5 ∷ [])
  -- two views without a hierarchy descriptor: `record` is 3 and every field of it 0, in both readings; written without a descriptor; and the mark on another stream
  pub views_read : read_loop 2009 two_views (replicate 161 5) ≡ reply (0 + 256 * 2) (view_rows ++ 5 ∷ [])
  pub views_read_2015 : read_loop 2015 two_views (replicate 161 5) ≡ reply (0 + 256 * 2) (view_rows ++ 5 ∷ [])
  pub views_written : write_loop view_rows (replicate 11 5) ≡ reply (0 + 256 * 10) (two_views ++ 5 ∷ [])
  pub mark_not_given : write_loop (15 ∷ 300 ∷ 3 ∷ replicate 77 0) (5 ∷ []) ≡ reply (6 + 256 * 0) (5 ∷ [])
  -- PTS, decoding time and match time, a TREF that stood there, and the end of the header
  pub times : read_times
      (0x00 ∷ 0x00 ∷ 0x01 ∷ 0xE0 ∷ 0x00 ∷ 0x00 ∷ 0x84 ∷ 0xC1 ∷ 0x12 ∷ 0x31 ∷ 0x00 ∷ 0x01 ∷ 0x07 ∷ 0x09 ∷ 0x11 ∷ 0x00 ∷ 0x01 ∷ 0x04 ∷ 0xB1 ∷ 0x0F ∷ 0x86 ∷ 0xFE ∷ 0xF1 ∷ 0x00 ∷ 0x01 ∷ 0x02 ∷ 0x59 ∷ [])
      (5 ∷ 5 ∷ 5 ∷ 5 ∷ 5 ∷ 5 ∷ []) ≡ reply (0 + 256 * 5) (900 ∷ 600 ∷ 300 ∷ 1 ∷ 27 ∷ 5 ∷ [])
  -- the closure's set and three units; four places written to the first two lists, and three sizes
  pub imported : import_call 2015 distinct 9 spare fives (5 ∷ 5 ∷ 5 ∷ []) ≡ leaves (0 + 256 * 4) spare_units (0b1010000000 ∷ 3 ∷ 5 ∷ [])
  pub joined : joins 12600 (5 ∷ 5 ∷ [])
      ≡ leaves (0 + 256 * 4) (lists (0 ∷ 1 ∷ 2 ∷ 3 ∷ []) (pos 0 ∷ pos 0 ∷ pos 600 ∷ pos 0 ∷ []) (2 ∷ 2 ∷ 5 ∷ 5 ∷ [])) (0b11 ∷ 2 ∷ [])
  pub unpaired : joins 12601 (5 ∷ 5 ∷ 5 ∷ []) ≡ leaves (15 + 256 * 3) fours (5 ∷ 5 ∷ 5 ∷ [])
  pub used_twice : joins 9000 (5 ∷ 5 ∷ 5 ∷ []) ≡ leaves (16 + 256 * 3) fours (5 ∷ 5 ∷ 5 ∷ [])
  pub no_room_for_summary : joins 12600 (5 ∷ []) ≡ leaves (17 + 256 * 0) fours (5 ∷ [])
  -- a work space for four rows, and for three
  pub joined_long : join_long_call 4 0b11 (0 ∷ 0b1 ∷ []) 1 (rows_up_to 12600) fours (5 ∷ 5 ∷ [])
      ≡ leaves (0 + 256 * 4) (lists (0 ∷ 1 ∷ 2 ∷ 3 ∷ []) (pos 0 ∷ pos 0 ∷ pos 600 ∷ pos 0 ∷ []) (2 ∷ 2 ∷ 5 ∷ 5 ∷ [])) (0b11 ∷ 2 ∷ [])
  pub too_long : join_long_call 3 0b11 (0 ∷ 0b1 ∷ []) 1 (rows_up_to 12600) fours (5 ∷ 5 ∷ []) ≡ leaves (13 + 256 * 0) fours (5 ∷ 5 ∷ [])

pub record Pinned : Type 0 where
  pub words : WordsPinned
  pub records : RecordsPinned
  pub loops : LoopsPinned
  pub times : TimesPinned
  pub rows : RowsPinned
  pub for_c : ForCPinned

for_c_pinned : ForCPinned
unfolding size edges_of members_of heads_by_layer head_of tail_of row_too_wide entry_in
for_c_pinned =
    record {
      closure = refl;
      no_such_layer = refl;
      no_room = refl;
      no_call = refl;
      entries_read = refl;
      hierarchy_row = refl;
      extension_row = refl;
      entries_written = refl;
      record_too_wide = refl;
      views_read = refl;
      views_read_2015 = refl;
      views_written = refl;
      mark_not_given = refl;
      times = refl;
      imported = refl;
      joined = refl;
      unpaired = refl;
      used_twice = refl;
      no_room_for_summary = refl;
      joined_long = refl;
      too_long = refl;
    }

-- THE STATEMENT: every pin holds.
pub pins_hold : Pinned
pins_hold =
    record {
      words = words_pinned;
      records = records_pinned;
      loops = loops_pinned;
      times = times_pinned;
      rows = rows_pinned;
      for_c = for_c_pinned;
    }
