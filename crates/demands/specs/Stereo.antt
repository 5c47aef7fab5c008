-- THE TWO FUNCTIONS FOR C OF THE STEREO SET (document 02, W-211), each as a call: what include/thoquenry.h says that it tells.
-- Assumes nothing.
use Rattle.std.specs.Prelude.{ℕ, cond, List, [], ◌∷◌, ◌++◌, ltb, length, Err, Ok}
use Rattle.buffers.specs.Buffers.{over}
use Rattle.vocabulary.specs.declared.refusal.Refusal.TheVariants.{NoRoom, TooWide}
use Rattle.es_loop.specs.Answer.{Outcome}
use Rattle.loop_writer.specs.Answer.{Written}
use Rattle.entry_rows.specs.Rows.{row_of}
use Rattle.mvc_extension.specs.MvcExtension.{mvc_extension_fields}
use Rattle.stereo_set.specs.declared.set.StereoRead.{StereoRead}
use Rattle.stereo_set.specs.Meaning as Set
use Rattle.stereo_writer.specs.Meaning as SetWriting
use Rattle.thoquenry_stereo.specs.Writing.{entries_given, base_given, second_given, given_too_wide}
use Rattle.thoquenry_stereo.proofs.thq_read_stereo.Kinds as read-stereo-kinds
use Rattle.thoquenry_stereo.proofs.thq_read_stereo.Reads as read-stereo
use Rattle.thoquenry_stereo.proofs.thq_write_stereo.Kinds as write-stereo-kinds
use Rattle.thoquenry_stereo.proofs.thq_write_stereo.Reads as write-stereo
use Rattle.promised.specs.Calls.{Run}
use Rattle.promised.specs.Readers.{read_loop}
use Rattle.promised.specs.Writers.{write_loop}
use Rattle.demands.specs.Told.{ForC, Told, counts, refuses, Says, If}
use Rattle.demands.specs.ForC.{written_told}

-- ---- thq_read_stereo

-- the two lists
pub record BothLists : Type 0 where
  pub entries : List ℕ
  pub extensions : List ℕ

pub record ReadStereoGiven : Type 0 where
  pub bytes : List ℕ
  pub lists : BothLists

-- '`entries` receives 160 numbers: the entry of layer 0, then that of layer 1. `extensions` receives 16 numbers: the descriptor of layer 0, then that of layer 1. Counts the
-- layers, 2.' '17 where `entries_length` is below 160 or `extensions_length` below 16.'
abbrev pub stereo_told : Outcome → StereoRead → BothLists → Told BothLists
stereo_told (Err refusal) read room = refuses refusal
stereo_told (Ok tt) read room =
    cond (ltb (length room.entries) 160) (refuses NoRoom)
    (cond (ltb (length room.extensions) 16) (refuses NoRoom)
    (counts 2
    (record {
      entries = over (row_of read.base ++ row_of read.second) room.entries;
      extensions = over (mvc_extension_fields read.base_extension ++ mvc_extension_fields read.second_extension) room.extensions;
    })))

-- it tells the right answer of reading a stereo set
pub record TellsSet (bytes : List ℕ) (room : BothLists) (answer : ℕ) (after : BothLists) : Type 0 where
  pub read : StereoRead
  pub right : Set.Answers bytes read
  pub said : Says (stereo_told read.outcome read room) room answer after

abbrev pub thq_read_stereo : ForC
thq_read_stereo =
    record {
      Ran = Run 3 read-stereo-kinds.ps read-stereo-kinds.r;
      Asks = λ run. read-stereo.Pre run.lifetimes run.handed;
      Ensures = λ run. read-stereo.Post run.lifetimes run.handed run.answer run.left;
      Given = ReadStereoGiven;
      Buffers = BothLists;
      given = λ run. record {
        bytes = run.handed.0.now;
        lists = record { entries = run.handed.1.0.now; extensions = run.handed.1.1.0.now };
      };
      answer = λ run. run.answer;
      before = λ given. given.lists;
      after = λ run. record { entries = run.left.1.0.now; extensions = run.left.1.1.0.now };
      numbers = read_loop.numbers ++ 17 ∷ 44 ∷ 45 ∷ 46 ∷ [];
      Means = λ given answer after. TellsSet given.bytes given.lists answer after;
    }

-- ---- thq_write_stereo

pub record WriteStereoGiven : Type 0 where
  pub entries : List ℕ
  pub extensions : List ℕ
  pub out : List ℕ

-- it tells the right answer of writing a stereo set, with the descriptors that the numbers of `extensions` are
pub record TellsWriting (given : WriteStereoGiven) (answer : ℕ) (after : List ℕ) : Type 0 where
  pub written : Written
  pub left : List ℕ
  pub right : SetWriting.Answers (base_given given.extensions) (second_given given.extensions) (entries_given given.entries) given.out written left
  pub said : Says (written_told written left) given.out answer after

-- 'Refusals: 25 first, where a value of `entries` or of `extensions` is too wide for its field'
abbrev pub thq_write_stereo : ForC
thq_write_stereo =
    record {
      Ran = Run 3 write-stereo-kinds.ps write-stereo-kinds.r;
      Asks = λ run. write-stereo.Pre run.lifetimes run.handed;
      Ensures = λ run. write-stereo.Post run.lifetimes run.handed run.answer run.left;
      Given = WriteStereoGiven;
      Buffers = List ℕ;
      given = λ run. record { entries = run.handed.0.now; extensions = run.handed.1.0.now; out = run.handed.1.1.0.now };
      answer = λ run. run.answer;
      before = λ given. given.out;
      after = λ run. run.left.1.1.0.now;
      numbers = write_loop.numbers ++ 44 ∷ 46 ∷ [];
      Means = λ given answer after. If (given_too_wide given.entries given.extensions) (Says (refuses TooWide) given.out answer after) (TellsWriting given answer after);
    }
