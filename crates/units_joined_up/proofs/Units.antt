-- THE THEOREM: what was told and laid of the pieces is what is read of the whole, and so are the units.
-- Assumes nothing.
use Rattle.std.specs.Prelude.{Err, Ok}
use Prim.Native.Nat.{ℕ, ◌≤◌, ◌<◌, min}
use mathlib.Core.Path.{◌≡◌, refl, sym, ap, ap₂, subst, ◌∙◌}
use mathlib.Core.Bool.{Bool, true, false, cond}
use mathlib.Core.List.{List, map}
use native.Mathlib.Decide.{dec_lt}
use native.Mathlib.Omega.{arith}
use borrow.Author.Tests.{lt-ltb, le-ltb, ltb-true, ltb-false}
use lib.Dec.{ltb}
use lib.ListN.{length, take, length-map}
use lib.Seq.{take_at}
use Rattle.buffers.specs.Buffers.{over}
use Rattle.vocabulary.specs.declared.refusal.Refusal.TheVariants.{OutOfRange}
use Rattle.closure.specs.declared.Layers.{Layers}
use Rattle.es_loop.specs.Answer.{Outcome}
use Rattle.scanning.specs.declared.events.Row.{Row}
use Rattle.unit_starts.specs.declared.Found.{Found}
use Rattle.unit_starts.specs.Finding.{found_in}
use Rattle.recording_rows.specs.Columns.{Columns, room_in, index_in, decoding_in, match_in}
use Rattle.recordings.specs.Answer.{Recording}
use Rattle.recordings.specs.declared.RecordingFault.TheVariants.{Faulty, NotRead as HeaderRefused, TooManyRows}
use Rattle.recordings.specs.Reading.{fault_of, header_refusal, answer_of}
use Rattle.rows.specs.Table.{Table, table}
use Rattle.unit_lists.specs.Sequence.{Lists}
use Rattle.join_answers.specs.Answer.{Joined}
use Rattle.join_answers.specs.Joining.{Room, room_of, joined_of}
use Rattle.recording_imports.specs.Answer.{RowsRead, Imported}
use Rattle.recording_imports.specs.declared.Unread.TheVariants.{Refused, NotRead}
use Rattle.recording_imports.specs.Rows.{pid_table, rows_of, rows_told, rows_for}
use Rattle.recording_imports.specs.Imports.{layers_of_loop, outcome_asked, imported_by, imported_of, table_of, import_rows, import_of, places_for, columns_hold, held_rows, count_of, first_rows, rows_to_join, import_told}
use Rattle.long_imports.proofs.Whole.{most_alike, Sound, rows_sound}
use Rattle.import_summaries.specs.Summaries.{with_summary, import_reply}
use Rattle.c_answers.specs.Answers.{not_a_call}
use Rattle.fed_packets.specs.Feeding.{joined_up}
use Rattle.packet_states.specs.States.{most_packets}
use Rattle.passing.specs.Passing.{stored_from, with_room}
use Rattle.thoquenry_pieces.specs.Calls.{told_by}
use Rattle.thoquenry_units.specs.Units.{units_told, units_call}
use Rattle.pieces_joined_up.specs.JoinedUp.{Recorded}
use Rattle.pieces_joined_up.proofs.Whole.{Reached, reached, told_whole, holds_whole, all_over, room_kept}
use Rattle.units_joined_up.specs.UnitsJoinedUp.{joined_columns, whole_reply, UnitsAsTheWhole}

-- ---- 13 at the work space, 13 at the columns

-- rows that fit the columns find the same room in columns that are as long or longer
same_test : (most room hold rows : ℕ) → room ≤ hold → rows ≤ room → ltb (min most hold) rows ≡ ltb (min most room) rows
same_test most room hold rows h k = go (dec_lt most rows)
  where
    go : Dec (most < rows) → ltb (min most hold) rows ≡ ltb (min most room) rows
    go (yes l) = lt-ltb (min most hold) rows (omega arith) ∙ sym (lt-ltb (min most room) rows (omega arith))
    go (no l) = le-ltb (min most hold) rows (omega arith) ∙ sym (le-ltb (min most room) rows (omega arith))

held_answer : (f : Found) (most room hold : ℕ) → room ≤ hold → held_rows (min most hold) (rows_told (answer_of f room)) ≡ rows_told (answer_of f (min most room))
held_answer f most room hold h = go (ltb f.fault.number 34) (ltb f.refusal.number 25)
  where
    last : (t : Bool) → ltb room f.rows ≡ t
        → held_rows (min most hold) (rows_told (cond t (Err TooManyRows) (Ok f.rows))) ≡ rows_told (cond (ltb (min most room) f.rows) (Err TooManyRows) (Ok f.rows))
    last true e =
        let more : room < f.rows = ltb-true room f.rows e in
        sym (ap (λ (t : Bool). rows_told (cond t (Err TooManyRows) (Ok f.rows))) (lt-ltb (min most room) f.rows (omega arith)))
    last false e =
        let fits : f.rows ≤ room = ltb-false room f.rows e in
        ap (λ (t : Bool). cond t (Err (Refused (OutOfRange 0))) (Ok f.rows)) (same_test most room hold f.rows h fits) ∙ both (ltb (min most room) f.rows)
      where
        both : (t : Bool) → cond t (Err (Refused (OutOfRange 0))) (Ok f.rows) ≡ rows_told (cond t (Err TooManyRows) (Ok f.rows))
        both true = refl
        both false = refl

    go : (t u : Bool)
        → held_rows (min most hold)
        (rows_told (cond t (Err (Faulty (fault_of f.fault.number f.fault.packet)))
        (cond u (Err (HeaderRefused (header_refusal f.refusal.number) f.refusal.packet)) (cond (ltb room f.rows) (Err TooManyRows) (Ok f.rows)))))
        ≡ rows_told (cond t (Err (Faulty (fault_of f.fault.number f.fault.packet)))
        (cond u (Err (HeaderRefused (header_refusal f.refusal.number) f.refusal.packet)) (cond (ltb (min most room) f.rows) (Err TooManyRows) (Ok f.rows))))
    go true u = refl
    go false true = refl
    go false false = last (ltb room f.rows) refl

held_asked : (outcome : Outcome) (f : Found) (most room hold : ℕ) → room ≤ hold
    → held_rows (min most hold) (rows_for outcome (answer_of f room)) ≡ rows_for outcome (answer_of f (min most room))
held_asked (Ok tt) f most room hold h = held_answer f most room hold h
held_asked (Err refusal) f most room hold h = refl

-- the three columns hold at least what all five do
least_of : (a b c d e : ℕ) → min a (min b (min c (min d e))) ≤ min a (min b c)
least_of a b c d e = omega arith

-- ---- the columns

module _ (bytes packets : List ℕ) (most : ℕ) (before : Columns) where
  abbrev there : List Row
  there = rows_of bytes packets

  fitted : (count : ℕ) → Sound (pid_table bytes) packets most before (Ok count) → length there ≤ room_in before
  fitted count sound = subst (λ (n : ℕ). n ≤ room_in before) sound.0 sound.1.1

  -- the first of the columns are the rows
  shown : (count : ℕ) → Sound (pid_table bytes) packets most before (Ok count)
      → first_rows count (joined_columns (stored_from 0 (with_room (room_in before) 0 there) before)) ≡ table_of there
  shown count sound =
      ap (λ (c : Columns). first_rows count (joined_columns c)) (all_over there before (fitted count sound))
      ∙ (λ i. table (column index_in before.indices i) (column decoding_in before.decodings i) (column match_in before.matches i))
    where
      column : (f : Row → ℕ) (old : List ℕ) → take count (over (map f there) old) ≡ map f there
      column f old = take_at (map f there) _ count (length-map there f ∙ sym sound.0)

  module _ (target : ℕ) (room : Room) (t : Table) (t_is : t ≡ joined_columns (stored_from 0 (with_room (room_in before) 0 there) before)) where
    abbrev layers : Layers
    layers = layers_of_loop bytes

    -- joined, and replied
    same_units : (rows : RowsRead) → Sound (pid_table bytes) packets most before rows
        → imported_by rows (joined_of most layers target (first_rows (count_of rows) t) room) ≡ imported_by rows (joined_of (places_for most before) layers target (table_of there) room)
    same_units (Ok count) sound =
        let long : length (map index_in there) ≡ count = length-map there index_in ∙ sym sound.0 in
        ap (λ (x : Table). imported_of (joined_of most layers target (first_rows count x) room)) t_is
        ∙ ap (λ (x : Table). imported_of (joined_of most layers target x room)) (shown count sound)
        ∙ ap imported_of (most_alike layers (table_of there) room most (places_for most before) (omega (arith, sound.1.0)) (omega (arith, sound.1.0, sound.1.1)) target)
    same_units (Err (Refused refusal)) sound = refl
    same_units (Err (NotRead refusal packet)) sound = refl

    same_reply : (rows : RowsRead) → Sound (pid_table bytes) packets most before rows → (joined : Joined) (size : ℕ) (old : Lists) (summary : List ℕ)
        → import_reply layers (first_rows (count_of rows) t) (with_summary size (imported_by rows joined)) old summary
        ≡ import_reply layers (table_of there) (with_summary size (imported_by rows joined)) old summary
    same_reply (Ok count) sound joined size old summary =
        ap (λ (x : Table). import_reply layers x (with_summary size (imported_of joined)) old summary)
        (ap (λ (x : Table). first_rows count x) t_is ∙ shown count sound)
    same_reply (Err (Refused refusal)) sound joined size old summary = refl
    same_reply (Err (NotRead refusal packet)) sound joined size old summary = refl

-- ---- the theorem

module _ (bytes : List ℕ) (before : Columns) (pieces : List (List ℕ)) {state counts : List ℕ} {after : Columns} (r : Reached bytes before pieces state counts after)
    (most target : ℕ) (old : Lists) (summary : List ℕ) where
  abbrev packets : List ℕ
  packets = joined_up pieces

  abbrev t : Table
  t = joined_columns after

  abbrev right : RowsRead
  right = import_rows (places_for most before) bytes target packets

  t_is : t ≡ joined_columns (stored_from 0 (with_room (room_in before) 0 (rows_of bytes packets)) before)
  t_is = ap joined_columns (holds_whole bytes before pieces r)

  columns_hold_lem : room_in before ≤ columns_hold t
  columns_hold_lem =
      subst (λ (n : ℕ). n ≤ columns_hold t)
      (ap room_in (holds_whole bytes before pieces r) ∙ room_kept 0 (with_room (room_in before) 0 (rows_of bytes packets)) before)
      (least_of (length after.indices) (length after.decodings) (length after.matches) (length after.trefs) (length after.packets))

  rows_are : rows_to_join most bytes target (told_by counts) t ≡ right
  rows_are =
      ap (λ (x : Recording). held_rows (min most (columns_hold t)) (rows_for (outcome_asked bytes target) x)) (told_whole bytes before pieces r)
      ∙ held_asked (outcome_asked bytes target) (found_in (pid_table bytes) packets) most (room_in before) (columns_hold t) columns_hold_lem

  sound : Sound (pid_table bytes) packets most before right
  sound = rows_sound (pid_table bytes) packets most before (outcome_asked bytes target)

  units_are : import_told most bytes target (told_by counts) t (room_of old) ≡ import_of (places_for most before) bytes target packets (room_of old)
  units_are =
      ap (λ (x : RowsRead). imported_by x (joined_of most (layers_of_loop bytes) target (first_rows (count_of x) t) (room_of old))) rows_are
      ∙ same_units bytes packets most before target (room_of old) t t_is right sound

  told_reply : units_told most bytes target (told_by counts) t old summary ≡ whole_reply most bytes target packets before old summary
  told_reply =
      ap₂ (λ (x : RowsRead) (i : Imported). import_reply (layers_of_loop bytes) (first_rows (count_of x) t) (with_summary (length summary) i) old summary) rows_are units_are
      ∙ same_reply bytes packets most before target (room_of old) t t_is right sound
      (joined_of (places_for most before) (layers_of_loop bytes) target (table_of (rows_of bytes packets)) (room_of old)) (length summary) old summary

  whole_reply_lem : units_call most bytes target state counts t old summary ≡ whole_reply most bytes target packets before old summary
  whole_reply_lem =
      ap (λ (b : Bool). cond b (units_told most bytes target (told_by counts) t old summary) (record { answer = not_a_call; after = old; summary = summary })) r.is_one ∙ told_reply

-- HOWEVER A RECORDING IS CUT, THE UNITS ARE THOSE OF THE WHOLE.
pub units_joined_up : (bytes : List ℕ) (before : Columns) {pieces : List (List ℕ)} {state counts : List ℕ} {after : Columns} → Recorded bytes before pieces state counts after
    → length (joined_up pieces) ≤ most_packets → UnitsAsTheWhole bytes before pieces state counts after
units_joined_up bytes before {pieces} recorded few most target lists summary = whole_reply_lem bytes before pieces (reached bytes before recorded few) most target lists summary
