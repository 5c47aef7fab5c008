-- A LOOP read and written as rows of numbers, and the closure of a target: thq_read_loop, thq_write_loop and thq_closure.
-- Assumes nothing.
use Rattle.std.specs.Prelude.{ℕ, ◌*◌, cond, List, [], ◌∷◌, ltb, length, Err, None, Ok, Some}
use Rattle.vocabulary.specs.declared.refusal.Refusal.TheVariants.{NoRoom, TooWide}
use Rattle.loop_entries.specs.declared.Entry.{Entry}
use Rattle.es_loop.specs.Answer.{Outcome}
use Rattle.es_loop.specs.declared.reader.LoopRead.{LoopRead}
use Rattle.es_loop.specs.Reading.{loop_read}
use Rattle.loop_writer.specs.Answer.{Written}
use Rattle.loop_writer.specs.Writing.{answer, content}
use Rattle.closure.specs.Answer.{Closure}
use Rattle.loop_layers.specs.Closures.{entries_read, loop_closure}
use Rattle.sets.specs.Sets.{size}
use Rattle.buffers.specs.Buffers.{over}
use Rattle.entry_rows.specs.Rows.{rows_of, some_too_wide, row_count, entries_in}
use Rattle.c_answers.specs.Answer.{Asked}
use Rattle.c_answers.specs.Answers.{accepted, refused, not_a_call, asked_for, Reply, reply, unchanged}

-- ---- thq_read_loop

-- '`entries` receives 80 numbers for each entry, in loop order. Counts the entries.' '17 where `entries_length` is below 80 numbers for each entry.'
abbrev pub entries_laid : ℕ → List Entry → List ℕ → Reply
entries_laid count entries buffer =
    cond (ltb (length buffer) (length entries * 80)) (unchanged NoRoom buffer) (reply (accepted count) (over (rows_of entries) buffer))

-- 'Refusals: 1 to 9, at an entry', before it
abbrev pub loop_laid : Outcome → ℕ → List Entry → List ℕ → Reply
loop_laid (Ok tt) count entries buffer = entries_laid count entries buffer
loop_laid (Err refusal) count entries buffer = unchanged refusal buffer

abbrev pub rows_read : LoopRead → List ℕ → Reply
rows_read read buffer = loop_laid read.outcome read.count (entries_read read) buffer

abbrev pub rows_asked : Asked → List ℕ → List ℕ → Reply
rows_asked (Some reading) bytes buffer = rows_read (loop_read reading bytes) buffer
rows_asked None bytes buffer = reply not_a_call buffer

abbrev pub read_loop : ℕ → List ℕ → List ℕ → Reply
read_loop reading bytes buffer = rows_asked (asked_for reading) bytes buffer

-- ---- thq_write_loop

-- 'Counts the bytes written to `out`.'
abbrev pub loop_written : Written → ℕ
loop_written (Ok count) = accepted count
loop_written (Err refusal) = refused refusal

-- 'Refusals: 25 first, where a value is too wide for its field, a `record` above 2 and a flag above 1 among them; then 1, which more than 201
-- entries give too; then 3 and 6 to 9, at an entry; then 17.'
abbrev pub write_loop : List ℕ → List ℕ → Reply
write_loop numbers out =
    cond (some_too_wide numbers) (unchanged TooWide out)
    (reply (loop_written (answer (length out) (row_count numbers) (entries_in numbers))) (content (row_count numbers) (entries_in numbers) out))

-- ---- thq_closure

-- '`set` receives one number, whose bit i is 1 when layer index i is one of them. Counts the layers. Refusals: 1 to 9, 11, 12; then 17 where `set_length` is 0.'
abbrev pub closure_laid : Closure → List ℕ → Reply
closure_laid (Ok members) set =
    cond (ltb (length set) 1) (unchanged NoRoom set) (reply (accepted (size members)) (over (members ∷ []) set))
closure_laid (Err refusal) set = unchanged refusal set

abbrev pub closure_asked : Asked → List ℕ → ℕ → List ℕ → Reply
closure_asked (Some reading) bytes target set = closure_laid (loop_closure reading bytes target) set
closure_asked None bytes target set = reply not_a_call set

abbrev pub closure_call : ℕ → List ℕ → ℕ → List ℕ → Reply
closure_call reading bytes target set = closure_asked (asked_for reading) bytes target set
