-- The calls that write bytes into a buffer, and their promises.
-- Assumes nothing.
use Rattle.std.specs.Prelude.{ℕ, Bool, true, List, [], ◌∷◌, ◌≡◌, refl, length, take, Err, Ok}
use Rattle.std.proofs.Math.Option.{Option, none, some}
use Rattle.std.proofs.Common.{◌∙◌, ap}
use Rattle.vocabulary.specs.Refusals.{number_of}
use Rattle.loop_entries.specs.declared.Entry.{Entry}
use Rattle.loop_writer.specs.Answer.{Written}
use Rattle.loop_writer.specs.Layout.{loop_bytes}
use Rattle.loop_writer.specs.Writing.{answer, content_after, content}
use Rattle.loop_writer.proofs.write_loop.Kinds as write-loop-kinds
use Rattle.loop_writer.proofs.write_loop.Reads as write-loop
use Rattle.combinators.specs.Members.{member}
use Rattle.loop_writer.specs.Meaning as Loop
use Rattle.loop_writer.proofs.Meant as loop
use Rattle.stamps.specs.declared.Times.{Times as HeaderTimes}
use Rattle.pes_writer.specs.Answer.{Written as TimesWritten}
use Rattle.pes_writer.specs.Writing.{header_of, write_of, buffer_of}
use Rattle.pes_writer.proofs.write.Kinds as write-times-kinds
use Rattle.pes_writer.proofs.write.Reads as write-times
use Rattle.pes_writer.specs.OwnShape as Times
use Rattle.pes_writer.proofs.OwnShapeLaws as times
use Rattle.promised.specs.Calls.{Run, Call, is_listed}
use Rattle.promised.specs.Shown.{Computed, not_refused}

-- ---- `loop_writer::write_loop`: the loop writer uses 1, 3, 6 to 9, 17, 25

pub record EntriesGiven : Type 0 where
  pub count : ℕ
  pub array : List Entry
  pub out : List ℕ

abbrev pub written_number : Written → Option ℕ
written_number (Ok n) = none
written_number (Err refusal) = some (number_of refusal)

abbrev pub write_loop : Call
write_loop =
    record {
      Ran = Run 1 write-loop-kinds.ps write-loop-kinds.r;
      Asks = λ run. write-loop.Pre run.lifetimes run.handed;
      Ensures = λ run. write-loop.Post run.lifetimes run.handed run.answer run.left;
      Given = EntriesGiven;
      Answer = Written;
      Buffers = List ℕ;
      given = λ run. record { count = run.handed.0; array = run.handed.1.0; out = run.handed.1.1.0.now };
      answer = λ run. run.answer;
      before = λ given. given.out;
      after = λ run. run.left.1.1.0.now;
      number_in = written_number;
      numbers = 1 ∷ 3 ∷ 6 ∷ 7 ∷ 8 ∷ 9 ∷ 17 ∷ 25 ∷ [];
      Means = λ given written after. Loop.Answers given.count given.array given.out written after;
    }

-- the number of a condition is one of the list
condition_listed : {entries : List Entry} {n k : ℕ} → Loop.Condition entries n k → member n write_loop.numbers ≡ true
condition_listed (Loop.pid_seen a b c d) = refl
condition_listed (Loop.type_wrong a b c) = refl
condition_listed (Loop.mark_not_given a b c) = refl
condition_listed (Loop.mark_missing a b c d) = refl
condition_listed (Loop.flags_wrong a b) = refl
condition_listed (Loop.index_held a b c d e f) = refl
condition_listed (Loop.embedded_wrong a b) = refl

written_listed : {count : ℕ} {array : List Entry} {out after : List ℕ} {written : Written} → Loop.Answers count array out written after
    → is_listed write_loop.numbers (written_number written) ≡ true
written_listed (Loop.too_wide_lem s) = refl
written_listed (Loop.too_many a b) = refl
written_listed (Loop.too_long_lem a b c) = refl
written_listed (Loop.refuses a b c d at_entry_lem lower earlier) = condition_listed at_entry_lem
written_listed (Loop.no_room a b c d e f) = refl
written_listed (Loop.accepts a b c d e f) = refl

written_untouched : (written : Written) (bytes out : List ℕ) (number : ℕ) → written_number written ≡ some number
    → content_after written bytes out ≡ out
written_untouched (Ok n) bytes out number e = not_refused e
written_untouched (Err r) bytes out number e = refl

pub loop_written_computed : Computed write_loop (λ given. answer (length given.out) given.count given.array) (λ given. content given.count given.array given.out)
loop_written_computed =
    record {
      asks_nothing = λ run. tt;
      ensured = λ run e. e;
      right = λ given. loop.answer_meant given.count given.array given.out;
      nothing_else = λ given means. loop.answer_only given.count given.array given.out means;
      listed = λ given. written_listed (loop.answer_meant given.count given.array given.out);
      untouched = λ given number e. written_untouched (answer (length given.out) given.count given.array)
          (loop_bytes (take given.count given.array)) given.out number e;
    }

-- ---- `pes::write`: 'its writer 24, 25, 17'

pub record TimesGiven : Type 0 where
  pub times : HeaderTimes
  pub with_tref : Bool
  pub out : List ℕ

abbrev pub times_written_number : TimesWritten → Option ℕ
times_written_number (Ok n) = none
times_written_number (Err refusal) = some (number_of refusal)

abbrev pub write_times : Call
write_times =
    record {
      Ran = Run 1 write-times-kinds.ps write-times-kinds.r;
      Asks = λ run. write-times.Pre run.lifetimes run.handed;
      Ensures = λ run. write-times.Post run.lifetimes run.handed run.answer run.left;
      Given = TimesGiven;
      Answer = TimesWritten;
      Buffers = List ℕ;
      given = λ run. record { times = run.handed.0; with_tref = run.handed.1.0; out = run.handed.1.1.0.now };
      answer = λ run. run.answer;
      before = λ given. given.out;
      after = λ run. run.left.1.1.0.now;
      number_in = times_written_number;
      numbers = 17 ∷ 24 ∷ 25 ∷ [];
      Means = λ given answer after. Times.Writes given.times given.with_tref given.out answer after;
    }

times_written_listed : {times : HeaderTimes} {with_tref : Bool} {out after : List ℕ} {answer : TimesWritten} → Times.Writes times with_tref out answer after
    → is_listed write_times.numbers (times_written_number answer) ≡ true
times_written_listed (Times.too_wide_lem a) = refl
times_written_listed (Times.no_room a b c) = refl
times_written_listed (Times.pts_before_dts_lem a b c d) = refl
times_written_listed (Times.written a b c d) = refl

abbrev times_answer : TimesGiven → TimesWritten
times_answer given = write_of given.times given.with_tref (length given.out)

abbrev times_buffer : TimesGiven → TimesWritten → List ℕ
times_buffer given written = buffer_of written (header_of given.times given.with_tref) given.out

times_untouched : (written : TimesWritten) (bytes out : List ℕ) (number : ℕ) → times_written_number written ≡ some number
    → buffer_of written bytes out ≡ out
times_untouched (Ok n) bytes out number e = not_refused e
times_untouched (Err r) bytes out number e = refl

pub times_written_computed : Computed write_times (times_answer) (λ given. times_buffer given (times_answer given))
times_written_computed =
    record {
      asks_nothing = λ run. tt;
      ensured = λ run e. (e.0, e.1 ∙ ap (times_buffer (write_times.given run)) e.0);
      right = λ given. times.writes_is given.times given.with_tref given.out;
      nothing_else = λ given means. only given means;
      listed = λ given. times_written_listed (times.writes_is given.times given.with_tref given.out);
      untouched = λ given number e. times_untouched (times_answer given) (header_of given.times given.with_tref) given.out number e;
    }
  where
    only : (given : TimesGiven) {written : TimesWritten} {after : List ℕ} → Times.Writes given.times given.with_tref given.out written after
        → (written ≡ times_answer given) × (after ≡ times_buffer given (times_answer given))
    only given means =
        let both = times.writes_only given.times given.with_tref given.out means in
        (both.0, both.1 ∙ ap (times_buffer given) both.0)
