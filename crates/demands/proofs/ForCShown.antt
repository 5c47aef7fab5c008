-- The promises of the seven functions for C.
-- Assumes nothing.
use Rattle.std.specs.Prelude.{ℕ, ◌*◌, ◌≤◌, Bool, true, false, cond, List, [], ◌∷◌, ◌≡◌, refl, ltb, length, take, Err, Ok}
use Rattle.std.proofs.Math.Option.{some}
use Rattle.std.proofs.Common.{◌∙◌, arith}
use Rattle.combinators.specs.Bools.{either_way}
use Rattle.buffers.specs.Buffers.{over}
use Rattle.sets.specs.Sets.{size}
use Rattle.vocabulary.specs.declared.refusal.Refusal.TheVariants.{NoRoom, TooWide}
use Rattle.vocabulary.specs.declared.stream_types.Reading.{Reading}
use Rattle.vocabulary.specs.Refusals.{number_of}
use Rattle.loop_entries.specs.declared.Entry.{Entry}
use Rattle.es_loop.specs.Answer.{Outcome}
use Rattle.es_loop.specs.Reading.{loop_read}
use Rattle.closure.specs.Answer.{Closure}
use Rattle.loop_layers.specs.Closures.{loop_closure}
use Rattle.loop_writer.specs.Answer.{Written}
use Rattle.loop_writer.specs.Layout.{loop_bytes}
use Rattle.loop_writer.specs.Writing as LoopWriting
use Rattle.pes_reader.specs.Answer.{Answer}
use Rattle.pes_reader.specs.Reading.{read_of}
use Rattle.pes_writer.specs.Answer.{Written as TimesWritten}
use Rattle.pes_writer.specs.Writing.{header_of, write_of, buffer_of}
use Rattle.entry_rows.specs.Rows.{rows_of, some_too_wide, row_count, entries_in}
use Rattle.c_answers.specs.Answer.{Asked}
use Rattle.c_answers.specs.Answers.{accepted, Reply, reply, unchanged}
use Rattle.thoquenry.specs.Loops.{loop_laid, rows_asked, read_loop as cReadLoop, loop_written, write_loop as cWriteLoop, closure_laid, closure_asked, closure_call}
use Rattle.thoquenry.specs.Times.{times_read, read_times as cReadTimes, bytes_written, times_written, write_times as cWriteTimes}
use Rattle.thoquenry.specs.Bounds.{SmallTimes, small_read, SmallHeader, small_header, SmallOutcome, small_loop, SmallWritten, small_written, SmallClosure, small_closure, size_short}
use Rattle.promised.specs.Calls.{is_listed, Promised}
use Rattle.promised.specs.Shown.{listed_first, listed_second}
use Rattle.demands.specs.Told.{Told, counts, refuses, for_c}
use Rattle.demands.proofs.ToldShown.{code, leaves, number_told, Fits, told_promised, if_told, retold, told_by_year, each_year, by_year, asked}
use Rattle.promised.specs.Readers.{outcome_number, read_loop, loop_read_computed, LoopTargetGiven, closure_number, closure_of_loop, loop_closure_computed, times_number, read_times, times_read_computed}
use Rattle.promised.specs.Writers.{EntriesGiven, TimesGiven, written_number, write_loop, loop_written_computed, times_written_number, write_times, times_written_computed}
use Rattle.demands.specs.ForC.{ReadLoopGiven, loop_told, loop_read_told, thq_read_loop, WriteLoopGiven, written_told, thq_write_loop, ClosureGiven, closure_told, thq_closure, ReadTimesGiven, times_told, thq_read_times, WriteTimesGiven, times_given, times_written_told, thq_write_times}

-- ---- one buffer

-- the reply that the function's contract names tells this
abbrev Tells : Told (List ℕ) → List ℕ → Reply → Type 0
Tells t before reply = (reply.answer ≡ code t) × (reply.buffer ≡ leaves t before)

tells_either : (test : Bool) (t u : Told (List ℕ)) (before : List ℕ) (r s : Reply) → Tells t before r → Tells u before s
    → Tells (cond test t u) before (cond test r s)
tells_either true t u before r s p q = p
tells_either false t u before r s p q = q

-- ---- thq_read_loop

loop_tells : (outcome : Outcome) (count : ℕ) (entries : List Entry) (room : List ℕ) → Tells (loop_told outcome count entries room) room (loop_laid outcome count entries room)
loop_tells (Err refusal) count entries room = (refl, refl)
loop_tells (Ok tt) count entries room =
    tells_either (ltb (length room) (length entries * 80)) (refuses NoRoom) (counts count (over (rows_of entries) room)) room
    (unchanged NoRoom room) (reply (accepted count) (over (rows_of entries) room)) (refl, refl) (refl, refl)

loop_fits : (outcome : Outcome) (count : ℕ) (entries : List Entry) (room : List ℕ) → SmallOutcome outcome → count ≤ 32768 → Fits (loop_told outcome count entries room)
loop_fits (Err refusal) count entries room h k = omega arith
loop_fits (Ok tt) count entries room h k =
    either_way Fits (ltb (length room) (length entries * 80)) (refuses NoRoom) (counts count (over (rows_of entries) room)) (omega arith) (omega arith)

loop_listed : (outcome : Outcome) (count : ℕ) (entries : List Entry) (room : List ℕ) → is_listed read_loop.numbers (outcome_number outcome) ≡ true
    → is_listed thq_read_loop.numbers (number_told (loop_told outcome count entries room)) ≡ true
loop_listed (Err refusal) count entries room e = listed_first read_loop.numbers (17 ∷ 255 ∷ []) (some (number_of refusal)) e
loop_listed (Ok tt) count entries room e =
    either_way (λ (t : Told (List ℕ)). is_listed thq_read_loop.numbers (number_told t) ≡ true) (ltb (length room) (length entries * 80)) (refuses NoRoom)
    (counts count (over (rows_of entries) room)) refl refl

abbrev read_loop_under : ReadLoopGiven → Reading → Told (List ℕ)
read_loop_under given reading = loop_read_told (loop_read reading given.bytes) given.entries

abbrev told_read_loop : ReadLoopGiven → Told (List ℕ)
told_read_loop given = told_by_year given.reading (read_loop_under given)

read_loop_replied : (given : ReadLoopGiven) → Tells (told_read_loop given) given.entries (cReadLoop given.reading given.bytes given.entries)
read_loop_replied given =
    asked (λ (a : Asked) (t : Told (List ℕ)). Tells t given.entries (rows_asked a given.bytes given.entries)) (read_loop_under given) given.reading
    (λ reading. (let read = loop_read reading given.bytes in
    loop_tells read.outcome read.count (take read.count read.entries) given.entries))
    (refl, refl)

pub thq_loop_read : Promised (for_c thq_read_loop)
thq_loop_read =
    told_promised thq_read_loop told_read_loop (record {
      asks_nothing = λ run. tt;
      ensured = λ run e. (let given = thq_read_loop.given run in let replied = read_loop_replied given in (e.0 ∙ replied.0, e.1 ∙ replied.1));
      exactly = λ given answer after. by_year given.reading (read_loop_under given) given.entries answer after
          (λ reading. retold loop_read_computed (record { reading = reading; bytes = given.bytes }) (λ read nothing. loop_read_told read given.entries)
          given.entries answer after);
      fits = λ given. each_year Fits given.reading (read_loop_under given)
          (λ reading. (let read = loop_read reading given.bytes in let small = small_loop reading given.bytes in
          loop_fits read.outcome read.count (take read.count read.entries) given.entries small.0 small.1))
          tt;
      listed = λ given. each_year (λ (t : Told (List ℕ)). is_listed thq_read_loop.numbers (number_told t) ≡ true) given.reading (read_loop_under given)
          (λ reading. (let read = loop_read reading given.bytes in
          loop_listed read.outcome read.count (take read.count read.entries) given.entries
          (loop_read_computed.listed (record { reading = reading; bytes = given.bytes }))))
          refl;
      without_0 = refl;
    })

-- ---- thq_write_loop

abbrev entries_given : WriteLoopGiven → EntriesGiven
entries_given given = record { count = row_count given.entries; array = entries_in given.entries; out = given.out }

abbrev entries_written : WriteLoopGiven → Written
entries_written given = LoopWriting.answer (length given.out) (row_count given.entries) (entries_in given.entries)

abbrev entries_left : WriteLoopGiven → List ℕ
entries_left given = LoopWriting.content (row_count given.entries) (entries_in given.entries) given.out

abbrev told_write_loop : WriteLoopGiven → Told (List ℕ)
told_write_loop given = cond (some_too_wide given.entries) (refuses TooWide) (written_told (entries_written given) (entries_left given))

written_tells : (written : Written) (bytes out : List ℕ)
    → Tells (written_told written (LoopWriting.content_after written bytes out)) out (reply (loop_written written) (LoopWriting.content_after written bytes out))
written_tells (Ok count) bytes out = (refl, refl)
written_tells (Err refusal) bytes out = (refl, refl)

pub written_fits : (written : Written) (left : List ℕ) → SmallWritten written → Fits (written_told written left)
written_fits (Ok count) left h = omega arith
written_fits (Err refusal) left h = omega arith

written_listed : (written : Written) (left : List ℕ) → is_listed write_loop.numbers (written_number written) ≡ true
    → is_listed write_loop.numbers (number_told (written_told written left)) ≡ true
written_listed (Ok count) left e = refl
written_listed (Err refusal) left e = e

write_loop_replied : (given : WriteLoopGiven) → Tells (told_write_loop given) given.out (cWriteLoop given.entries given.out)
write_loop_replied given =
    tells_either (some_too_wide given.entries) (refuses TooWide) (written_told (entries_written given) (entries_left given)) given.out
    (unchanged TooWide given.out) (reply (loop_written (entries_written given)) (entries_left given)) (refl, refl)
    (written_tells (entries_written given) (loop_bytes (take (row_count given.entries) (entries_in given.entries))) given.out)

pub thq_loop_written : Promised (for_c thq_write_loop)
thq_loop_written =
    told_promised thq_write_loop told_write_loop (record {
      asks_nothing = λ run. tt;
      ensured = λ run e. (let given = thq_write_loop.given run in let replied = write_loop_replied given in (e.0 ∙ replied.0, e.1 ∙ replied.1));
      exactly = λ given answer after. if_told (some_too_wide given.entries) (refuses TooWide) (written_told (entries_written given) (entries_left given)) given.out answer after
          (λ s. s, λ s. s) (retold loop_written_computed (entries_given given) written_told given.out answer after);
      fits = λ given. either_way Fits (some_too_wide given.entries) (refuses TooWide) (written_told (entries_written given) (entries_left given)) (omega arith)
          (written_fits (entries_written given) (entries_left given) (small_written (length given.out) (row_count given.entries) (entries_in given.entries)));
      listed = λ given. either_way (λ (t : Told (List ℕ)). is_listed thq_write_loop.numbers (number_told t) ≡ true) (some_too_wide given.entries) (refuses TooWide)
          (written_told (entries_written given) (entries_left given)) refl
          (written_listed (entries_written given) (entries_left given) (loop_written_computed.listed (entries_given given)));
      without_0 = refl;
    })

-- ---- thq_closure

closure_tells : (found : Closure) (room : List ℕ) → Tells (closure_told found room) room (closure_laid found room)
closure_tells (Err refusal) room = (refl, refl)
closure_tells (Ok members) room =
    tells_either (ltb (length room) 1) (refuses NoRoom) (counts (size members) (over (members ∷ []) room)) room
    (unchanged NoRoom room) (reply (accepted (size members)) (over (members ∷ []) room)) (refl, refl) (refl, refl)

pub closure_fits : (found : Closure) (room : List ℕ) → SmallClosure found → Fits (closure_told found room)
closure_fits (Err refusal) room h = omega arith
closure_fits (Ok members) room h =
    let small : size members ≤ 64 = size_short members in
    either_way Fits (ltb (length room) 1) (refuses NoRoom) (counts (size members) (over (members ∷ []) room)) (omega arith) (omega arith)

closure_listed : (found : Closure) (room : List ℕ) → is_listed closure_of_loop.numbers (closure_number found) ≡ true
    → is_listed thq_closure.numbers (number_told (closure_told found room)) ≡ true
closure_listed (Err refusal) room e = listed_first closure_of_loop.numbers (17 ∷ 255 ∷ []) (some (number_of refusal)) e
closure_listed (Ok members) room e =
    either_way (λ (t : Told (List ℕ)). is_listed thq_closure.numbers (number_told t) ≡ true) (ltb (length room) 1) (refuses NoRoom)
    (counts (size members) (over (members ∷ []) room)) refl refl

abbrev target_given : ClosureGiven → Reading → LoopTargetGiven
target_given given reading = record { reading = reading; bytes = given.bytes; target = given.target }

abbrev found_under : ClosureGiven → Reading → Closure
found_under given reading = loop_closure reading given.bytes given.target

abbrev closure_under : ClosureGiven → Reading → Told (List ℕ)
closure_under given reading = closure_told (found_under given reading) given.set

abbrev told_closure : ClosureGiven → Told (List ℕ)
told_closure given = told_by_year given.reading (closure_under given)

closure_replied : (given : ClosureGiven) → Tells (told_closure given) given.set (closure_call given.reading given.bytes given.target given.set)
closure_replied given =
    asked (λ (a : Asked) (t : Told (List ℕ)). Tells t given.set (closure_asked a given.bytes given.target given.set)) (closure_under given)
    given.reading (λ reading. closure_tells (found_under given reading) given.set) (refl, refl)

pub thq_closure_found : Promised (for_c thq_closure)
thq_closure_found =
    told_promised thq_closure told_closure (record {
      asks_nothing = λ run. tt;
      ensured = λ run e. (let replied = closure_replied (thq_closure.given run) in (e.0 ∙ replied.0, e.1 ∙ replied.1));
      exactly = λ given answer after. by_year given.reading (closure_under given) given.set answer after
          (λ reading. retold loop_closure_computed (target_given given reading) (λ found nothing. closure_told found given.set) given.set answer after);
      fits = λ given. each_year Fits given.reading (closure_under given)
          (λ reading. closure_fits (found_under given reading) given.set (small_closure reading given.bytes given.target)) tt;
      listed = λ given. each_year (λ (t : Told (List ℕ)). is_listed thq_closure.numbers (number_told t) ≡ true) given.reading (closure_under given)
          (λ reading. closure_listed (found_under given reading) given.set (loop_closure_computed.listed (target_given given reading))) refl;
      without_0 = refl;
    })

-- ---- thq_read_times

times_tells : (read : Answer) (room : List ℕ) → Tells (times_told read room) room (times_read read room)
times_tells (Ok header) room = (refl, refl)
times_tells (Err refusal) room = (refl, refl)

times_fits : (read : Answer) (room : List ℕ) → SmallTimes read → Fits (times_told read room)
times_fits (Ok header) room h = omega arith
times_fits (Err refusal) room h = omega arith

times_listed : (read : Answer) (room : List ℕ) → is_listed read_times.numbers (times_number read) ≡ true
    → is_listed thq_read_times.numbers (number_told (times_told read room)) ≡ true
times_listed (Ok header) room e = refl
times_listed (Err refusal) room e = listed_second (17 ∷ []) read_times.numbers (some (number_of refusal)) e

abbrev times_said : ReadTimesGiven → Told (List ℕ)
times_said given = times_told (read_of given.bytes) given.times

abbrev told_read_times : ReadTimesGiven → Told (List ℕ)
told_read_times given = cond (ltb (length given.times) 5) (refuses NoRoom) (times_said given)

read_times_replied : (given : ReadTimesGiven) → Tells (told_read_times given) given.times (cReadTimes given.bytes given.times)
read_times_replied given =
    tells_either (ltb (length given.times) 5) (refuses NoRoom) (times_said given) given.times
    (unchanged NoRoom given.times) (times_read (read_of given.bytes) given.times) (refl, refl) (times_tells (read_of given.bytes) given.times)

pub thq_times_read : Promised (for_c thq_read_times)
thq_times_read =
    told_promised thq_read_times told_read_times (record {
      asks_nothing = λ run. tt;
      ensured = λ run e. (let replied = read_times_replied (thq_read_times.given run) in (e.0 ∙ replied.0, e.1 ∙ replied.1));
      exactly = λ given answer after. if_told (ltb (length given.times) 5) (refuses NoRoom) (times_said given) given.times answer after
          (λ s. s, λ s. s) (retold times_read_computed given.bytes (λ read nothing. times_told read given.times) given.times answer after);
      fits = λ given. either_way Fits (ltb (length given.times) 5) (refuses NoRoom) (times_said given) (omega arith)
          (times_fits (read_of given.bytes) given.times (small_read given.bytes));
      listed = λ given. either_way (λ (t : Told (List ℕ)). is_listed thq_read_times.numbers (number_told t) ≡ true) (ltb (length given.times) 5) (refuses NoRoom)
          (times_said given) refl (times_listed (read_of given.bytes) given.times (times_read_computed.listed given.bytes));
      without_0 = refl;
    })

-- ---- thq_write_times

abbrev header_written : TimesGiven → TimesWritten
header_written given = write_of given.times given.with_tref (length given.out)

abbrev header_by : TimesGiven → TimesWritten → List ℕ
header_by given written = buffer_of written (header_of given.times given.with_tref) given.out

abbrev header_said : TimesGiven → Told (List ℕ)
header_said given = times_written_told (header_written given) (header_by given (header_written given))

abbrev told_write_times : WriteTimesGiven → Told (List ℕ)
told_write_times given = cond (ltb 1 given.with_tref) (refuses TooWide) (header_said (times_given given))

header_tells : (given : TimesGiven) (written : TimesWritten)
    → Tells (times_written_told written (header_by given written)) given.out (reply (bytes_written written) (header_by given written))
header_tells given (Ok count) = (refl, refl)
header_tells given (Err refusal) = (refl, refl)

write_times_replied : (given : WriteTimesGiven)
    → Tells (told_write_times given) given.out (cWriteTimes given.pts given.decoding given.matching given.with_tref given.out)
write_times_replied given =
    let header : TimesGiven = times_given given in
    tells_either (ltb 1 given.with_tref) (refuses TooWide) (header_said header) given.out
    (unchanged TooWide given.out) (times_written header.times header.with_tref given.out) (refl, refl) (header_tells header (header_written header))

header_fits : (written : TimesWritten) (left : List ℕ) → SmallHeader written → Fits (times_written_told written left)
header_fits (Ok count) left h = omega arith
header_fits (Err refusal) left h = omega arith

header_listed : (written : TimesWritten) (left : List ℕ) → is_listed write_times.numbers (times_written_number written) ≡ true
    → is_listed write_times.numbers (number_told (times_written_told written left)) ≡ true
header_listed (Ok count) left e = refl
header_listed (Err refusal) left e = e

pub thq_times_written : Promised (for_c thq_write_times)
thq_times_written =
    told_promised thq_write_times told_write_times (record {
      asks_nothing = λ run. tt;
      ensured = λ run e. (let replied = write_times_replied (thq_write_times.given run) in (e.0 ∙ replied.0, e.1 ∙ replied.1));
      exactly = λ given answer after. if_told (ltb 1 given.with_tref) (refuses TooWide) (header_said (times_given given)) given.out answer after
          (λ s. s, λ s. s) (retold times_written_computed (times_given given) times_written_told given.out answer after);
      fits = λ given. either_way Fits (ltb 1 given.with_tref) (refuses TooWide) (header_said (times_given given)) (omega arith)
          (let header : TimesGiven = times_given given in
          header_fits (header_written header) (header_by header (header_written header)) (small_header header.times header.with_tref (length given.out)));
      listed = λ given. either_way (λ (t : Told (List ℕ)). is_listed thq_write_times.numbers (number_told t) ≡ true) (ltb 1 given.with_tref) (refuses TooWide)
          (header_said (times_given given)) refl
          (let header : TimesGiven = times_given given in
          header_listed (header_written header) (header_by header (header_written header)) (times_written_computed.listed header));
      without_0 = refl;
    })
