-- THE SEVEN FUNCTIONS FOR C, each as a call: what include/thoquenry.h says that it tells of a call of the library.
-- Assumes nothing.
use Rattle.std.specs.Prelude.{ℕ, ◌*◌, cond, List, [], ◌∷◌, ◌++◌, eqb, ltb, length, take, Err, Ok}
use Rattle.buffers.specs.Buffers.{over}
use Rattle.sets.specs.Sets.{size}
use Rattle.vocabulary.specs.declared.refusal.Refusal.TheVariants.{NoRoom, TooWide}
use Rattle.loop_entries.specs.declared.Entry.{Entry}
use Rattle.es_loop.specs.Answer.{Outcome}
use Rattle.es_loop.specs.declared.reader.LoopRead.{LoopRead}
use Rattle.closure.specs.Answer.{Closure}
use Rattle.loop_writer.specs.Answer.{Written}
use Rattle.pes_reader.specs.Answer.{Answer}
use Rattle.pes_writer.specs.Answer.{Written as TimesWritten}
use Rattle.entry_rows.specs.Rows.{rows_of, some_too_wide, row_count, entries_in}
use Rattle.thoquenry.proofs.thq_read_loop.Kinds as read-loop-kinds
use Rattle.thoquenry.proofs.thq_read_loop.Reads as read-loop
use Rattle.thoquenry.proofs.thq_write_loop.Kinds as write-loop-kinds
use Rattle.thoquenry.proofs.thq_write_loop.Reads as write-loop
use Rattle.thoquenry.proofs.thq_closure.Kinds as closure-kinds
use Rattle.thoquenry.proofs.thq_closure.Reads as closure
use Rattle.thoquenry.proofs.thq_read_times.Kinds as read-times-kinds
use Rattle.thoquenry.proofs.thq_read_times.Reads as read-times
use Rattle.thoquenry.proofs.thq_write_times.Kinds as write-times-kinds
use Rattle.thoquenry.proofs.thq_write_times.Reads as write-times
use Rattle.promised.specs.Calls.{Run}
use Rattle.demands.specs.Told.{ForC, Told, counts, refuses, not_a_call, Says, Retells, If, ByYear}
use Rattle.promised.specs.Readers.{read_loop, closure_of_loop, read_times}
use Rattle.promised.specs.Writers.{write_loop, TimesGiven, write_times}

-- ---- thq_read_loop

pub record ReadLoopGiven : Type 0 where
  pub reading : ℕ
  pub bytes : List ℕ
  pub entries : List ℕ

-- '`entries` receives 80 numbers for each entry, in loop order. Counts the entries. Refusals: 1 to 9, at an entry; 17 where `entries_length` is
-- below 80 numbers for each entry.'
abbrev pub loop_told : Outcome → ℕ → List Entry → List ℕ → Told (List ℕ)
loop_told (Err refusal) count entries room = refuses refusal
loop_told (Ok tt) count entries room = cond (ltb (length room) (length entries * 80)) (refuses NoRoom) (counts count (over (rows_of entries) room))

abbrev pub loop_read_told : LoopRead → List ℕ → Told (List ℕ)
loop_read_told read room = loop_told read.outcome read.count (take read.count read.entries) room

abbrev pub thq_read_loop : ForC
thq_read_loop =
    record {
      Ran = Run 2 read-loop-kinds.ps read-loop-kinds.r;
      Asks = λ run. read-loop.Pre run.lifetimes run.handed;
      Ensures = λ run. read-loop.Post run.lifetimes run.handed run.answer run.left;
      Given = ReadLoopGiven;
      Buffers = List ℕ;
      given = λ run. record { reading = run.handed.0; bytes = run.handed.1.0.now; entries = run.handed.1.1.0.now };
      answer = λ run. run.answer;
      before = λ given. given.entries;
      after = λ run. run.left.1.1.0.now;
      numbers = read_loop.numbers ++ 17 ∷ 255 ∷ [];
      Means = λ given answer after. ByYear given.reading
          (λ known. Retells read_loop (record { reading = known; bytes = given.bytes }) (λ read nothing. loop_read_told read given.entries)
          given.entries answer after)
          (Says not_a_call given.entries answer after);
    }

-- ---- thq_write_loop

pub record WriteLoopGiven : Type 0 where
  pub entries : List ℕ
  pub out : List ℕ

-- 'Counts the bytes written to `out`.'
abbrev pub written_told : Written → List ℕ → Told (List ℕ)
written_told (Ok count) left = counts count left
written_told (Err refusal) left = refuses refusal

-- 'one entry for each 80 numbers of `entries`'; 'Refusals: 25 first, where a value is too wide for its field, a `record` above 2 and a flag above 1
-- among them; then 1, which more than 201 entries give too; then 3 and 6 to 9, at an entry; then 17.'
abbrev pub thq_write_loop : ForC
thq_write_loop =
    record {
      Ran = Run 2 write-loop-kinds.ps write-loop-kinds.r;
      Asks = λ run. write-loop.Pre run.lifetimes run.handed;
      Ensures = λ run. write-loop.Post run.lifetimes run.handed run.answer run.left;
      Given = WriteLoopGiven;
      Buffers = List ℕ;
      given = λ run. record { entries = run.handed.0.now; out = run.handed.1.0.now };
      answer = λ run. run.answer;
      before = λ given. given.out;
      after = λ run. run.left.1.0.now;
      numbers = write_loop.numbers;
      Means = λ given answer after. If (some_too_wide given.entries) (Says (refuses TooWide) given.out answer after)
          (Retells write_loop (record { count = row_count given.entries; array = entries_in given.entries; out = given.out }) written_told given.out answer after);
    }

-- ---- thq_closure

pub record ClosureGiven : Type 0 where
  pub reading : ℕ
  pub bytes : List ℕ
  pub target : ℕ
  pub set : List ℕ

-- '`set` receives one number, whose bit i is 1 when layer index i is one of them. Counts the layers. Refusals: 1 to 9, 11, 12; then 17 where `set_length`
-- is 0.'
abbrev pub closure_told : Closure → List ℕ → Told (List ℕ)
closure_told (Err refusal) room = refuses refusal
closure_told (Ok members) room = cond (ltb (length room) 1) (refuses NoRoom) (counts (size members) (over (members ∷ []) room))

abbrev pub thq_closure : ForC
thq_closure =
    record {
      Ran = Run 2 closure-kinds.ps closure-kinds.r;
      Asks = λ run. closure.Pre run.lifetimes run.handed;
      Ensures = λ run. closure.Post run.lifetimes run.handed run.answer run.left;
      Given = ClosureGiven;
      Buffers = List ℕ;
      given = λ run. record { reading = run.handed.0; bytes = run.handed.1.0.now; target = run.handed.1.1.0; set = run.handed.1.1.1.0.now };
      answer = λ run. run.answer;
      before = λ given. given.set;
      after = λ run. run.left.1.1.1.0.now;
      numbers = closure_of_loop.numbers ++ 17 ∷ 255 ∷ [];
      Means = λ given answer after. ByYear given.reading
          (λ known. Retells closure_of_loop (record { reading = known; bytes = given.bytes; target = given.target })
          (λ found nothing. closure_told found given.set) given.set answer after)
          (Says not_a_call given.set answer after);
    }

-- ---- thq_read_times

pub record ReadTimesGiven : Type 0 where
  pub bytes : List ℕ
  pub times : List ℕ

-- '`times` receives five numbers: PTS, decoding time and match time; 1 where a TREF stood in the header, and else 0; and the offset at which the
-- header ends. Counts them, 5.'
abbrev pub times_told : Answer → List ℕ → Told (List ℕ)
times_told (Ok header) room =
    counts 5
    (over (header.times.pts ∷ header.times.decoding ∷ header.times.matching ∷ cond header.tref_sent 1 0 ∷ header.end ∷ []) room)
times_told (Err refusal) room = refuses refusal

-- 'Refusals: 17 where `times_length` is below 5; then 20 to 24.'
abbrev pub thq_read_times : ForC
thq_read_times =
    record {
      Ran = Run 2 read-times-kinds.ps read-times-kinds.r;
      Asks = λ run. read-times.Pre run.lifetimes run.handed;
      Ensures = λ run. read-times.Post run.lifetimes run.handed run.answer run.left;
      Given = ReadTimesGiven;
      Buffers = List ℕ;
      given = λ run. record { bytes = run.handed.0.now; times = run.handed.1.0.now };
      answer = λ run. run.answer;
      before = λ given. given.times;
      after = λ run. run.left.1.0.now;
      numbers = 17 ∷ read_times.numbers;
      Means = λ given answer after. If (ltb (length given.times) 5) (Says (refuses NoRoom) given.times answer after)
          (Retells read_times given.bytes (λ read nothing. times_told read given.times) given.times answer after);
    }

-- ---- thq_write_times

pub record WriteTimesGiven : Type 0 where
  pub pts : ℕ
  pub decoding : ℕ
  pub matching : ℕ
  pub with_tref : ℕ
  pub out : List ℕ

abbrev pub times_given : WriteTimesGiven → TimesGiven
times_given given =
    record {
      times = record { pts = given.pts; decoding = given.decoding; matching = given.matching };
      with_tref = eqb given.with_tref 1;
      out = given.out;
    }

-- 'Counts the bytes written to `out`.'
abbrev pub times_written_told : TimesWritten → List ℕ → Told (List ℕ)
times_written_told (Ok count) left = counts count left
times_written_told (Err refusal) left = refuses refusal

-- 'Refusals: 25 where a time is 2^33 or more, where `with_tref` is above 1, and where it is 0 although the match time is not the decoding time; then
-- 17, 24.'
abbrev pub thq_write_times : ForC
thq_write_times =
    record {
      Ran = Run 1 write-times-kinds.ps write-times-kinds.r;
      Asks = λ run. write-times.Pre run.lifetimes run.handed;
      Ensures = λ run. write-times.Post run.lifetimes run.handed run.answer run.left;
      Given = WriteTimesGiven;
      Buffers = List ℕ;
      given = λ run. record {
        pts = run.handed.0;
        decoding = run.handed.1.0;
        matching = run.handed.1.1.0;
        with_tref = run.handed.1.1.1.0;
        out = run.handed.1.1.1.1.0.now;
      };
      answer = λ run. run.answer;
      before = λ given. given.out;
      after = λ run. run.left.1.1.1.1.0.now;
      numbers = write_times.numbers;
      Means = λ given answer after. If (ltb 1 given.with_tref) (Says (refuses TooWide) given.out answer after)
          (Retells write_times (times_given given) times_written_told given.out answer after);
    }
