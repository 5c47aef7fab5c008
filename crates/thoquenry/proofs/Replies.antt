-- From what a function's code found to its reply, answer and buffer together.
-- Assumes nothing.
use Rattle.es_loop.specs.Answer.{entries_judged}
use Prim.Native.Nat.{ℕ, ◌-◌, ◌*◌, ◌≤◌, ◌<◌}
use mathlib.Core.Path.{◌≡◌, sym, ap, ap₂}
use mathlib.Core.Bool.{Bool, true, false, cond}
use mathlib.Core.List.{List, map}
use native.Mathlib.Omega.{arith}
use borrow.Author.Tests.{lt-ltb, le-ltb}
use lib.Dec.{ltb}
use lib.ListN.{length, replicate, length-map}
use lib.Seq.{take_at}
use Rattle.vocabulary.specs.declared.refusal.Refusal.TheVariants.{NoRoom, TooWide}
use Rattle.vocabulary.specs.declared.stream_types.Reading.{Reading}
use Rattle.loop_entries.specs.declared.Entry.{Entry}
use Rattle.loop_entries.specs.declared.Stream.{Stream}
use Rattle.loop_entries.specs.Entries.{blank_entry, streams_of, entry_of}
use Rattle.es_loop.specs.Reading.{verdict_of, answer_by}
use Rattle.es_loop.proofs.Verdicts.{sound}
use Rattle.loop_writer.specs.Writing.{answer, content}
use Rattle.buffers.specs.Buffers.{over}
use Rattle.entry_rows.specs.Rows.{rows_of, some_too_wide, row_count, entries_in}
use Rattle.c_answers.specs.Answers.{accepted, Reply, reply, unchanged}
use Rattle.thoquenry.specs.Bounds.{few_streams}
use Rattle.thoquenry.specs.Loops.{entries_laid, rows_read, loop_written, write_loop}

-- the two parts of equal replies
pub answers : {x y : Reply} → x ≡ y → x.answer ≡ y.answer
answers e = ap (λ (r : Reply). r.answer) e

pub buffers : {x y : Reply} → x ≡ y → x.buffer ≡ y.buffer
buffers e = ap (λ (r : Reply). r.buffer) e

-- 17, or what there is room for
pub no_room : (needed : ℕ) (buffer : List ℕ) (else : Reply) → length buffer < needed
    → unchanged NoRoom buffer ≡ cond (ltb (length buffer) needed) (unchanged NoRoom buffer) else
no_room needed buffer else h = sym (ap (λ (t : Bool). cond t (unchanged NoRoom buffer) else) (lt-ltb (length buffer) needed h))

pub has_room : (needed : ℕ) (buffer : List ℕ) (else : Reply) → needed ≤ length buffer
    → else ≡ cond (ltb (length buffer) needed) (unchanged NoRoom buffer) else
has_room needed buffer else h = sym (ap (λ (t : Bool). cond t (unchanged NoRoom buffer) else) (le-ltb (length buffer) needed h))

-- rows laid in, or 17
module _ (count : ℕ) (given : List Entry) (as_many : length given ≡ count) (buffer : List ℕ) where
  needed : length given * 80 ≡ count * 80
  needed = ap (λ (n : ℕ). n * 80) as_many

  pub no_room_for_rows : length buffer < count * 80 → unchanged NoRoom buffer ≡ entries_laid count given buffer
  no_room_for_rows h = no_room (length given * 80) buffer (reply (accepted count) (over (rows_of given) buffer)) (omega (arith, needed))

  pub room_for_rows : count * 80 ≤ length buffer → reply (accepted count) (over (rows_of given) buffer) ≡ entries_laid count given buffer
  room_for_rows h = has_room (length given * 80) buffer (reply (accepted count) (over (rows_of given) buffer)) (omega (arith, needed))

-- how many entries an accepted loop has
module _ (reading : Reading) (bytes : List ℕ) (count : ℕ) (pair : Bool) (judged : verdict_of reading bytes ≡ entries_judged count pair) where
  pub counted : count ≡ length (streams_of reading bytes)
  counted = (sound reading bytes count pair judged).counted

  pub few_counted : count ≤ 1008
  few_counted = omega (arith, counted, few_streams reading bytes, (sound reading bytes count pair judged).short)

-- what a loop answers by its verdict, laid in: the entries in their array are those of its streams
pub laid_accepted : (streams : List Stream) (count : ℕ) (pair : Bool) (buffer : List ℕ) → count ≡ length streams
    → entries_laid count (map entry_of streams) buffer ≡ rows_read (answer_by streams (entries_judged count pair)) buffer
laid_accepted streams count pair buffer e =
    ap₂ (λ (n : ℕ) (l : List Entry). entries_laid n l buffer) e
    (sym (take_at (map entry_of streams) (replicate (201 - length (map entry_of streams)) blank_entry) (length streams) (length-map streams entry_of)))

-- 25 of some row, or what the loop writer answers
module _ (numbers out : List ℕ) where
  pub some_wide : some_too_wide numbers ≡ true → unchanged TooWide out ≡ write_loop numbers out
  some_wide e =
      sym (ap (λ (t : Bool). cond t (unchanged TooWide out) (reply (loop_written (answer (length out) (row_count numbers) (entries_in numbers))) (content (row_count numbers) (entries_in numbers) out))) e)

  pub none_wide : some_too_wide numbers ≡ false
      → reply (loop_written (answer (length out) (row_count numbers) (entries_in numbers))) (content (row_count numbers) (entries_in numbers) out) ≡ write_loop numbers out
  none_wide e =
      sym (ap (λ (t : Bool). cond t (unchanged TooWide out) (reply (loop_written (answer (length out) (row_count numbers) (entries_in numbers))) (content (row_count numbers) (entries_in numbers) out))) e)
