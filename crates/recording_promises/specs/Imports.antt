-- `long_imports::import` and `import_long`: THE WHOLE IMPORT of a loop, a target and packets, as calls, and their promises: 1 to 9, 11, 12, 30 to 33, 20 to 24, 13 to 18. After a
-- refusal the three lists are as they were; the columns of `import_long` hold the rows as soon as these are accepted, which is said of them apart (`columns_left`).
-- Assumes nothing.
use Rattle.std.specs.Prelude.{ℕ, List, ◌++◌, length, Err, Ok}
use Rattle.std.proofs.Math.Option.{Option, none, some}
use Rattle.std.proofs.Common.{sym, subst}
use Rattle.vocabulary.specs.Refusals.{number_of}
use Rattle.rows.specs.Table.{most_rows}
use Rattle.unit_lists.specs.Sequence.{Lists, lists}
use Rattle.join_answers.specs.Joining.{room_of, most_long}
use Rattle.join_answers.specs.Steps.{spaces}
use Rattle.recording_rows.specs.Columns.{Columns, columns}
use Rattle.recording_imports.specs.Answer.{Imported}
use Rattle.recording_imports.specs.declared.Unread.TheVariants.{Refused, NotRead}
use Rattle.recording_imports.specs.Imports.{places_for, import_of, import_lists}
use Rattle.recording_meaning.specs.Meaning.{Answers}
use Rattle.recording_meaning.specs.Rows.{Leaves}
use Rattle.recording_meaning.proofs.RowsMeant.{columns_meant}
use Rattle.long_imports.proofs.import.Kinds as import-kinds
use Rattle.long_imports.proofs.import.Reads as import-reads
use Rattle.long_imports.proofs.import_long.Kinds as long-kinds
use Rattle.long_imports.proofs.import_long.Reads as long-reads
use Rattle.promised.specs.Calls.{Run, Call}
use Rattle.promised.specs.Readers.{read_loop, closure_of_target}
use Rattle.promised.specs.Joiners.{joining_numbers}
use Rattle.recording_promises.specs.Numbers.{recording_numbers}

pub record ImportGiven : Type 0 where
  pub places : ℕ
  pub bytes : List ℕ
  pub target : ℕ
  pub packets : List ℕ
  pub before : Lists

abbrev pub imported_number : Imported → Option ℕ
imported_number (Ok joined) = none
imported_number (Err (Refused refusal)) = some (number_of refusal)
imported_number (Err (NotRead refusal packet)) = some (number_of refusal)

abbrev pub later_numbers : List ℕ
later_numbers = recording_numbers ++ joining_numbers

abbrev pub asked_numbers : List ℕ
asked_numbers = closure_of_target.numbers ++ later_numbers

abbrev pub import_numbers : List ℕ
import_numbers = read_loop.numbers ++ asked_numbers

abbrev pub RightImport : ImportGiven → Imported → Lists → Type 0
RightImport given answer after = Answers given.places given.bytes given.target given.packets given.before answer after

-- at most 512 rows
abbrev pub import_packets : Call
import_packets =
    record {
      Ran = Run 5 import-kinds.ps import-kinds.r;
      Asks = λ run. import-reads.Pre run.lifetimes run.handed;
      Ensures = λ run. import-reads.Post run.lifetimes run.handed run.answer run.left;
      Given = ImportGiven;
      Answer = Imported;
      Buffers = Lists;
      given = λ run. record {
        places = most_rows;
        bytes = run.handed.0.now;
        target = run.handed.1.0;
        packets = run.handed.1.1.0.now;
        before = lists run.handed.1.1.1.0.now run.handed.1.1.1.1.0.now run.handed.1.1.1.1.1.0.now;
      };
      answer = λ run. run.answer;
      before = λ given. given.before;
      after = λ run. lists run.left.1.1.1.0.now run.left.1.1.1.1.0.now run.left.1.1.1.1.1.0.now;
      number_in = imported_number;
      numbers = import_numbers;
      Means = RightImport;
    }

-- as many rows as the columns and the work space hold
abbrev pub columns_before : Run 17 long-kinds.ps long-kinds.r → Columns
columns_before run = columns run.handed.1.1.1.0.now run.handed.1.1.1.1.0.now run.handed.1.1.1.1.1.0.now run.handed.1.1.1.1.1.1.0.now run.handed.1.1.1.1.1.1.1.0.now

abbrev pub columns_after : Run 17 long-kinds.ps long-kinds.r → Columns
columns_after run = columns run.left.1.1.1.0.now run.left.1.1.1.1.0.now run.left.1.1.1.1.1.0.now run.left.1.1.1.1.1.1.0.now run.left.1.1.1.1.1.1.1.0.now

abbrev pub places_in : Run 17 long-kinds.ps long-kinds.r → ℕ
places_in run =
    places_for (most_long (spaces (length run.handed.1.1.1.1.1.1.1.1.0.now) (length run.handed.1.1.1.1.1.1.1.1.1.0.now) (length run.handed.1.1.1.1.1.1.1.1.1.1.0.now) (length run.handed.1.1.1.1.1.1.1.1.1.1.1.0.now) (length run.handed.1.1.1.1.1.1.1.1.1.1.1.1.0.now) (length run.handed.1.1.1.1.1.1.1.1.1.1.1.1.1.0.now) (length run.handed.1.1.1.1.1.1.1.1.1.1.1.1.1.1.0.now)))
    (columns_before run)

abbrev pub import_long : Call
import_long =
    record {
      Ran = Run 17 long-kinds.ps long-kinds.r;
      Asks = λ run. long-reads.Pre run.lifetimes run.handed;
      Ensures = λ run. long-reads.Post run.lifetimes run.handed run.answer run.left;
      Given = ImportGiven;
      Answer = Imported;
      Buffers = Lists;
      given = λ run. record {
        places = places_in run;
        bytes = run.handed.0.now;
        target = run.handed.1.0;
        packets = run.handed.1.1.0.now;
        before = lists run.handed.1.1.1.1.1.1.1.1.1.1.1.1.1.1.1.0.now run.handed.1.1.1.1.1.1.1.1.1.1.1.1.1.1.1.1.0.now run.handed.1.1.1.1.1.1.1.1.1.1.1.1.1.1.1.1.1.0.now;
      };
      answer = λ run. run.answer;
      before = λ given. given.before;
      after = λ run. lists run.left.1.1.1.1.1.1.1.1.1.1.1.1.1.1.1.0.now run.left.1.1.1.1.1.1.1.1.1.1.1.1.1.1.1.1.0.now run.left.1.1.1.1.1.1.1.1.1.1.1.1.1.1.1.1.1.0.now;
      number_in = imported_number;
      numbers = import_numbers;
      Means = RightImport;
    }

-- ---- the promises

abbrev pub import_to : ImportGiven → Imported
import_to given = import_of given.places given.bytes given.target given.packets (room_of given.before)

abbrev pub lists_to : ImportGiven → Imported → Lists
lists_to given answer = import_lists given.bytes given.packets answer given.before

-- what the columns of the long import then hold
abbrev pub ColumnsLeft : Type 0
ColumnsLeft =
    (run : import_long.Ran) → import_long.Ensures run
    → Leaves (places_in run) (import_long.given run).bytes (import_long.given run).target (import_long.given run).packets (columns_before run) (columns_after run)

pub columns_left : ColumnsLeft
columns_left run e =
    let given = import_long.given run in
    subst (Leaves (places_in run) given.bytes given.target given.packets (columns_before run)) (sym e.1.0)
    (columns_meant (places_in run) given.bytes given.target given.packets (columns_before run))
