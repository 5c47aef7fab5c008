-- WHAT A CALLER FROM C IS TOLD of a recording, in the words of include/thoquenry.h: THQ_NUMBER of an answer is 0 where the call is accepted, or else the number of the refusal, and
-- THQ_VALUE is what the function counts, or the refusal's place, which is for a PES number the packet. Both are the right ones, with the right content of columns, lists and summary:
-- whatever a function for C equals by its contract tells what is right, `rows_told_lem` and `import_told`. A value of 2^56 or more, which no recording of a file system has, would not be read back.
-- Assumes nothing.
use Rattle.recording_imports.specs.Answer.{imported_units, RowsRead, Imported}
use Rattle.recording_imports.specs.declared.Unread.TheVariants.{Refused, NotRead}
use Rattle.std.specs.Prelude.{ℕ, ◌/◌, ◌%◌, ◌^◌, ◌<◌, min, Bool, true, false, cond, List, [], ◌∷◌, ◌≡◌, refl, ltb, length, Err, Ok}
use Rattle.std.proofs.Common.{arith}
use Rattle.buffers.specs.Buffers.{over}
use Rattle.vocabulary.specs.declared.refusal.Refusal.TheVariants.{NoRoom}
use Rattle.vocabulary.specs.Refusals.{number_of, place_of}
use Rattle.vocabulary.proofs.Numbers.{number_small}
use Rattle.c_answers.specs.Answers.{answer_of}
use Rattle.unit_lists.specs.Sequence.{Lists}
use Rattle.join_answers.specs.Joining.{room_of}
use Rattle.recording_rows.specs.Columns.{Columns, room_in}
use Rattle.recording_imports.specs.Rows.{rows_of, rows_under, columns_under}
use Rattle.recording_imports.specs.Imports.{layers_of_loop, table_of, import_of, import_lists}
use Rattle.packet_answers.specs.Answers.{rows_answer}
use Rattle.import_summaries.specs.Summaries.{ImportReply, with_summary, import_reply}
use Rattle.recording_meaning.specs.Meaning.{Answers}
use Rattle.recording_meaning.specs.Rows.{ReadsRows}
use Rattle.recording_meaning.proofs.Meant.{import_meant}
use Rattle.recording_meaning.proofs.RowsMeant.{rows_meant}

-- what the two macros give
pub record Reads (number value answer : ℕ) : Type 0 where
  pub number_read : answer % 256 ≡ number
  pub value_read : value < 2 ^ 56 → answer / 256 ≡ value

-- 'Counts the rows'; a refusal, at its place; a PES number, at its packet
abbrev pub RowsTold : RowsRead → ℕ → Type 0
RowsTold (Ok count) answer = Reads 0 count answer
RowsTold (Err (Refused refusal)) answer = Reads (number_of refusal) (place_of refusal) answer
RowsTold (Err (NotRead refusal packet)) answer = Reads (number_of refusal) packet answer

-- THE ROWS: it tells the right answer, and the columns hold what is right.
pub record TellsRows (bytes packets : List ℕ) (room : ℕ) (before : Columns) (answer : ℕ) (after : Columns) : Type 0 where
  pub found : RowsRead
  pub right : ReadsRows bytes packets room before found after
  pub told : RowsTold found answer

-- What a call leaves in its three lists and in the summary.
pub record Left : Type 0 where
  pub lists : Lists
  pub summary : List ℕ

-- 'Counts the rows' of the units, and the summary receives the closure and the number of units; '17 where .. `summary` [has] fewer than two' places; after a refusal all is as it was.
abbrev pub UnitsTold : Bool → ℕ → ℕ → ℕ → Lists → Left → ℕ → Left → Type 0
UnitsTold true closure units rows lists before answer after = Reads (number_of NoRoom) (place_of NoRoom) answer × (after ≡ before)
UnitsTold false closure units rows lists before answer after =
    Reads 0 rows answer × (after ≡ record { lists = lists; summary = over (closure ∷ units ∷ []) before.summary })

abbrev pub ImportTold : Imported → Lists → Left → ℕ → Left → Type 0
ImportTold (Ok joined) lists before answer after = UnitsTold (ltb (length before.summary) 2) joined.closure joined.units joined.rows lists before answer after
ImportTold (Err (Refused refusal)) lists before answer after = Reads (number_of refusal) (place_of refusal) answer × (after ≡ before)
ImportTold (Err (NotRead refusal packet)) lists before answer after = Reads (number_of refusal) packet answer × (after ≡ before)

-- THE WHOLE IMPORT: it tells the right answer, and the lists and the summary hold what is right.
pub record TellsImport (places : ℕ) (bytes : List ℕ) (target : ℕ) (packets : List ℕ) (before : Left) (answer : ℕ) (after : Left) : Type 0 where
  pub found : Imported
  pub lists : Lists
  pub right : Answers places bytes target packets before.lists found lists
  pub told : ImportTold found lists before answer after

-- ---- whatever a function equals by its contract tells so

reads : (number value : ℕ) → number < 256 → Reads number value (answer_of number value)
reads number value h = record { number_read = omega arith; value_read = λ small. omega arith }

pub rows_told_lem : (bytes packets : List ℕ) (places : ℕ) (before : Columns)
    → TellsRows bytes packets (min places (room_in before)) before (rows_answer (rows_under bytes packets places before))
    (columns_under bytes packets (rows_under bytes packets places before) before)
rows_told_lem bytes packets places before =
    record {
      found = rows_under bytes packets places before;
      right = rows_meant bytes packets (min places (room_in before)) before (record { is_answer = refl; is_after = refl });
      told = tells (rows_under bytes packets places before);
    }
  where
    tells : (r : RowsRead) → RowsTold r (rows_answer r)
    tells (Ok count) = reads 0 count (omega arith)
    tells (Err (Refused refusal)) = reads (number_of refusal) (place_of refusal) (number_small refusal)
    tells (Err (NotRead refusal packet)) = reads (number_of refusal) packet (number_small refusal)

abbrev left_by : ImportReply → Left
left_by reply = record { lists = reply.after; summary = reply.summary }

-- the reply that the functions for C name: what the import answers, with 17 for a summary that has no room
abbrev pub import_for : ℕ → List ℕ → ℕ → List ℕ → Left → ImportReply
import_for places bytes target packets before =
    import_reply (layers_of_loop bytes) (table_of (rows_of bytes packets))
    (with_summary (length before.summary) (import_of places bytes target packets (room_of before.lists))) before.lists before.summary

pub import_told : (places : ℕ) (bytes : List ℕ) (target : ℕ) (packets : List ℕ) (before : Left)
    → TellsImport places bytes target packets before (import_for places bytes target packets before).answer (left_by (import_for places bytes target packets before))
import_told places bytes target packets before =
    record {
      found = import_of places bytes target packets (room_of before.lists);
      lists = import_lists bytes packets (import_of places bytes target packets (room_of before.lists)) before.lists;
      right = import_meant places bytes target packets before.lists (record { is_answer = refl; is_after = refl });
      told = tells (import_of places bytes target packets (room_of before.lists));
    }
  where
    replied : Imported → ImportReply
    replied i = import_reply (layers_of_loop bytes) (table_of (rows_of bytes packets)) (with_summary (length before.summary) i) before.lists before.summary

    tells : (i : Imported) → ImportTold i (import_lists bytes packets i before.lists) before (replied i).answer (left_by (replied i))
    tells (Err (Refused refusal)) = (reads (number_of refusal) (place_of refusal) (number_small refusal), refl)
    tells (Err (NotRead refusal packet)) = (reads (number_of refusal) packet (number_small refusal), refl)
    tells (Ok joined) = by (ltb (length before.summary) 2)
      where
        by : (short : Bool)
            → UnitsTold short joined.closure joined.units joined.rows (import_lists bytes packets (imported_units joined.closure joined.units joined.rows) before.lists) before
            (import_reply (layers_of_loop bytes) (table_of (rows_of bytes packets)) (cond short (Err (Refused NoRoom)) (imported_units joined.closure joined.units joined.rows)) before.lists before.summary).answer
            (left_by (import_reply (layers_of_loop bytes) (table_of (rows_of bytes packets)) (cond short (Err (Refused NoRoom)) (imported_units joined.closure joined.units joined.rows)) before.lists before.summary))
        by true = (reads (number_of NoRoom) (place_of NoRoom) (omega arith), refl)
        by false = (reads 0 joined.rows (omega arith), refl)
