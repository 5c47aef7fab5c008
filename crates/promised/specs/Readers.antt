-- The calls that read, and their promises: a loop's entries, a target's closure, a PES header's times. None of them has an output buffer.
-- Assumes nothing.
use Rattle.std.specs.Prelude.{ℕ, true, List, [], ◌∷◌, ◌++◌, ◌≡◌, refl, Err, Ok}
use Rattle.std.proofs.Math.Option.{Option, none, some}
use Rattle.vocabulary.specs.declared.stream_types.Reading.{Reading}
use Rattle.vocabulary.specs.Refusals.{number_of}
use Rattle.es_loop.specs.Answer.{Outcome}
use Rattle.es_loop.specs.declared.reader.LoopRead.{LoopRead}
use Rattle.es_loop.specs.Reading.{loop_read}
use Rattle.es_loop.proofs.read_loop.Kinds as read-loop-kinds
use Rattle.es_loop.proofs.read_loop.Reads as read-loop
use Rattle.combinators.specs.Members.{member}
use Rattle.framing.specs.Pieces.{Item}
use Rattle.es_loop.specs.Meaning as Loop
use Rattle.es_loop.proofs.Meant as loop
use Rattle.closure.specs.declared.Layers.{Layers}
use Rattle.closure.specs.Answer.{Closure}
use Rattle.closure.specs.Closures.{closure_of}
use Rattle.closure.proofs.closure_of.Kinds as closure-of-kinds
use Rattle.closure.proofs.closure_of.Reads as closure-of
use Rattle.closure.specs.Meaning as Target
use Rattle.closure.proofs.Meant as target
use Rattle.loop_layers.specs.Closures.{loop_closure}
use Rattle.loop_layers.proofs.closure_of_loop.Kinds as closure-of-loop-kinds
use Rattle.loop_layers.proofs.closure_of_loop.Reads as closure-of-loop
use Rattle.loop_layers.specs.Meaning as LoopTarget
use Rattle.loop_layers.proofs.Meant as loop-target
use Rattle.pes_reader.specs.Answer.{Answer}
use Rattle.pes_reader.specs.Reading.{read_of}
use Rattle.pes_reader.proofs.read.Kinds as read-times-kinds
use Rattle.pes_reader.proofs.read.Reads as read-times
use Rattle.pes_reader.specs.Meaning as Times
use Rattle.pes_reader.proofs.MeaningLaws as times
use Rattle.promised.specs.Calls.{Run, Call, is_listed}
use Rattle.promised.specs.Shown.{Computed, listed_first}

-- ---- `es_loop::read_loop`: loop reading uses 1 to 9

pub record LoopGiven : Type 0 where
  pub reading : Reading
  pub bytes : List ℕ

abbrev pub outcome_number : Outcome → Option ℕ
outcome_number (Ok tt) = none
outcome_number (Err refusal) = some (number_of refusal)

abbrev pub read_loop : Call
read_loop =
    record {
      Ran = Run 1 read-loop-kinds.ps read-loop-kinds.r;
      Asks = λ run. read-loop.Pre run.lifetimes run.handed;
      Ensures = λ run. read-loop.Post run.lifetimes run.handed run.answer run.left;
      Given = LoopGiven;
      Answer = LoopRead;
      Buffers = Unit {0};
      given = λ run. record { reading = run.handed.0; bytes = run.handed.1.0.now };
      answer = λ run. run.answer;
      before = λ given. tt;
      after = λ run. tt;
      number_in = λ answer. outcome_number answer.outcome;
      numbers = 1 ∷ 2 ∷ 3 ∷ 4 ∷ 5 ∷ 6 ∷ 7 ∷ 8 ∷ 9 ∷ [];
      Means = λ given answer buffers. Loop.Answers given.reading given.bytes answer;
    }

-- the number of a condition is one of the list
condition_listed : {reading : Reading} {entries : List Item} {n k : ℕ} → Loop.Condition reading entries n k → member n read_loop.numbers ≡ true
condition_listed (Loop.entry_unfit e) = refl
condition_listed (Loop.descriptor_unfit a b c) = refl
condition_listed (Loop.pid_seen a b c d) = refl
condition_listed (Loop.length_wrong a b c) = refl
condition_listed (Loop.two_records a b c) = refl
condition_listed (Loop.type_wrong a b) = refl
condition_listed (Loop.flags_wrong a b) = refl
condition_listed (Loop.index_held a b c d) = refl
condition_listed (Loop.embedded_wrong a b) = refl

pub read_listed : {reading : Reading} {bytes : List ℕ} {answer : LoopRead} → Loop.Answers reading bytes answer
    → is_listed read_loop.numbers (outcome_number answer.outcome) ≡ true
read_listed (Loop.too_long_lem h) = refl
read_listed (Loop.refuses short cuts at_entry_lem lower earlier) = condition_listed at_entry_lem
read_listed (Loop.accepts short cuts no-condition) = refl

pub loop_read_computed : Computed read_loop (λ given. loop_read given.reading given.bytes) (λ given. tt)
loop_read_computed =
    record {
      asks_nothing = λ run. tt;
      ensured = λ run e. (e, refl);
      right = λ given. loop.answer_meant given.reading given.bytes;
      nothing_else = λ given means. (loop.answer_only given.reading given.bytes means, refl);
      listed = λ given. read_listed (loop.answer_meant given.reading given.bytes);
      untouched = λ given number e. refl;
    }

-- ---- `closure::closure_of`: 'the target 11 and 12'

pub record TargetGiven : Type 0 where
  pub layers : Layers
  pub target : ℕ

abbrev pub closure_number : Closure → Option ℕ
closure_number (Ok set) = none
closure_number (Err refusal) = some (number_of refusal)

abbrev pub closure_of_target : Call
closure_of_target =
    record {
      Ran = Run 0 closure-of-kinds.ps closure-of-kinds.r;
      Asks = λ run. closure-of.Pre run.lifetimes run.handed;
      Ensures = λ run. closure-of.Post run.lifetimes run.handed run.answer run.left;
      Given = TargetGiven;
      Answer = Closure;
      Buffers = Unit {0};
      given = λ run. record { layers = run.handed.0; target = run.handed.1.0 };
      answer = λ run. run.answer;
      before = λ given. tt;
      after = λ run. tt;
      number_in = closure_number;
      numbers = 11 ∷ 12 ∷ [];
      Means = λ given answer buffers. Target.Answers given.layers given.target answer;
    }

pub target_listed : {layers : Layers} {index : ℕ} {answer : Closure} → Target.Answers layers index answer
    → is_listed closure_of_target.numbers (closure_number answer) ≡ true
target_listed (Target.no_such_layer h) = refl
target_listed (Target.absent here lowest) = refl
target_listed (Target.complete here closure) = refl

pub closure_computed : Computed closure_of_target (λ given. closure_of given.layers given.target) (λ given. tt)
closure_computed =
    record {
      asks_nothing = λ run. tt;
      ensured = λ run e. (e, refl);
      right = λ given. target.closure_meant given.layers given.target;
      nothing_else = λ given means. (target.closure_only given.layers given.target means, refl);
      listed = λ given. target_listed (target.closure_meant given.layers given.target);
      untouched = λ given number e. refl;
    }

-- ---- `loop_layers::closure_of_loop`: 1 to 9, 11, 12

pub record LoopTargetGiven : Type 0 where
  pub reading : Reading
  pub bytes : List ℕ
  pub target : ℕ

abbrev pub closure_of_loop : Call
closure_of_loop =
    record {
      Ran = Run 1 closure-of-loop-kinds.ps closure-of-loop-kinds.r;
      Asks = λ run. closure-of-loop.Pre run.lifetimes run.handed;
      Ensures = λ run. closure-of-loop.Post run.lifetimes run.handed run.answer run.left;
      Given = LoopTargetGiven;
      Answer = Closure;
      Buffers = Unit {0};
      given = λ run. record { reading = run.handed.0; bytes = run.handed.1.0.now; target = run.handed.1.1.0 };
      answer = λ run. run.answer;
      before = λ given. tt;
      after = λ run. tt;
      number_in = closure_number;
      numbers = read_loop.numbers ++ closure_of_target.numbers;
      Means = λ given answer buffers. LoopTarget.Answers given.reading given.bytes given.target answer;
    }

loop_target_listed : {reading : Reading} {bytes : List ℕ} {index : ℕ} {answer : Closure} → LoopTarget.Answers reading bytes index answer
    → is_listed closure_of_loop.numbers (closure_number answer) ≡ true
loop_target_listed (LoopTarget.loop_refused {refusal} a) =
    listed_first read_loop.numbers closure_of_target.numbers (some (number_of refusal)) (read_listed a)
loop_target_listed (LoopTarget.loop_accepted streams a layers (Target.no_such_layer h)) = refl
loop_target_listed (LoopTarget.loop_accepted streams a layers (Target.absent here lowest)) = refl
loop_target_listed (LoopTarget.loop_accepted streams a layers (Target.complete here closure)) = refl

pub loop_closure_computed : Computed closure_of_loop (λ given. loop_closure given.reading given.bytes given.target) (λ given. tt)
loop_closure_computed =
    record {
      asks_nothing = λ run. tt;
      ensured = λ run e. (e, refl);
      right = λ given. loop-target.loop_answer_meant given.reading given.bytes given.target;
      nothing_else = λ given means. (loop-target.loop_answer_only given.reading given.bytes given.target means, refl);
      listed = λ given. loop_target_listed (loop-target.loop_answer_meant given.reading given.bytes given.target);
      untouched = λ given number e. refl;
    }

-- ---- `pes::read`: 'The PES reader uses 20 to 24'

abbrev pub times_number : Answer → Option ℕ
times_number (Ok header) = none
times_number (Err refusal) = some (number_of refusal)

abbrev pub read_times : Call
read_times =
    record {
      Ran = Run 1 read-times-kinds.ps read-times-kinds.r;
      Asks = λ run. read-times.Pre run.lifetimes run.handed;
      Ensures = λ run. read-times.Post run.lifetimes run.handed run.answer run.left;
      Given = List ℕ;
      Answer = Answer;
      Buffers = Unit {0};
      given = λ run. run.handed.0.now;
      answer = λ run. run.answer;
      before = λ given. tt;
      after = λ run. tt;
      number_in = times_number;
      numbers = 20 ∷ 21 ∷ 22 ∷ 23 ∷ 24 ∷ [];
      Means = λ bytes answer buffers. Times.Answers bytes answer;
    }

times_listed : {bytes : List ℕ} {answer : Answer} → Times.Answers bytes answer → is_listed read_times.numbers (times_number answer) ≡ true
times_listed (Times.not_video_header h) = refl
times_listed (Times.no_pts a b) = refl
times_listed (Times.fields_do_not_fit a b c) = refl
times_listed (Times.wrong_marker a b) = refl
times_listed (Times.pts_before_dts_lem a b c) = refl
times_listed (Times.says a b c) = refl

pub times_read_computed : Computed read_times (read_of) (λ bytes. tt)
times_read_computed =
    record {
      asks_nothing = λ run. tt;
      ensured = λ run e. (e, refl);
      right = λ bytes. times.answers_is bytes;
      nothing_else = λ bytes means. (times.answers_only bytes means, refl);
      listed = λ bytes. times_listed (times.answers_is bytes);
      untouched = λ bytes number e. refl;
    }
