-- The calls that join rows to units, and their promises: over a closure that was found, over layers, with work space of the caller's, and from the bytes of a
-- loop. Each has three lists for its output.
-- Assumes nothing.
use Rattle.std.specs.Prelude.{ℕ, List, [], ◌∷◌, ◌++◌, length, Err, Ok}
use Rattle.std.proofs.Math.Option.{Option, none, some}
use Rattle.vocabulary.specs.Refusals.{number_of}
use Rattle.vocabulary.specs.declared.stream_types.Reading.{Reading}
use Rattle.closure.specs.declared.Layers.{Layers}
use Rattle.heads.specs.Orderly.{Closed}
use Rattle.join_answers.specs.Answer.{Joined}
use Rattle.rows.specs.Table.{Table, table, most_rows}
use Rattle.unit_lists.specs.Sequence.{Lists, lists}
use Rattle.join_answers.specs.Joining.{most_long}
use Rattle.join_answers.specs.Steps.{spaces, Holds}
use Rattle.joining.proofs.join_table.Kinds as join-table-kinds
use Rattle.joining.proofs.join_table.Reads as join-table
use Rattle.joining.proofs.join_long.Kinds as join-long-kinds
use Rattle.joining.proofs.join_long.Reads as join-long
use Rattle.joining.proofs.join.Kinds as join-kinds
use Rattle.joining.proofs.join.Reads as join
use Rattle.join_answers.specs.Meaning as Joining
use Rattle.importing.proofs.import.Kinds as import-kinds
use Rattle.importing.proofs.import.Reads as import-reads
use Rattle.importing.specs.Meaning as Import
use Rattle.promised.specs.Calls.{Run, Call}
use Rattle.promised.specs.Readers.{read_loop, closure_of_target}

abbrev pub joined_number : Joined → Option ℕ
joined_number (Ok joined) = none
joined_number (Err refusal) = some (number_of refusal)

-- ---- `joining::join_table`: 13 to 18, of a table over the whole closure of a target, with work space lent

abbrev pub joining_numbers : List ℕ
joining_numbers = 13 ∷ 14 ∷ 15 ∷ 16 ∷ 17 ∷ 18 ∷ []

pub record TableGiven : Type 0 where
  pub most : ℕ
  pub layers : Layers
  pub closure : ℕ
  pub target : ℕ
  pub whole : Closed layers target closure
  pub rows : Table
  pub before : Lists

-- Of all the calls this function alone asks for something, the closure that its caller was answered and work space for as many rows as there may be: the runs it
-- has are those with both.
pub record RunOverClosure : Type 0 where
  pub run : Run 13 join-table-kinds.ps join-table-kinds.r
  pub closed : Closed run.handed.1.0 run.handed.1.1.1.0 run.handed.1.1.0
  pub holds : Holds run.handed.0 (length run.handed.1.1.1.1.1.1.1.0.now) (length run.handed.1.1.1.1.1.1.1.1.0.now) (length run.handed.1.1.1.1.1.1.1.1.1.0.now) (length run.handed.1.1.1.1.1.1.1.1.1.1.0.now) (length run.handed.1.1.1.1.1.1.1.1.1.1.1.0.now) (length run.handed.1.1.1.1.1.1.1.1.1.1.1.1.0.now) (length run.handed.1.1.1.1.1.1.1.1.1.1.1.1.1.0.now)

abbrev pub join_table : Call
join_table =
    record {
      Ran = RunOverClosure;
      Asks = λ ran. join-table.Pre ran.run.lifetimes ran.run.handed;
      Ensures = λ ran. join-table.Post ran.run.lifetimes ran.run.handed ran.run.answer ran.run.left;
      Given = TableGiven;
      Answer = Joined;
      Buffers = Lists;
      given = λ ran. record {
        most = ran.run.handed.0;
        layers = ran.run.handed.1.0;
        closure = ran.run.handed.1.1.0;
        target = ran.run.handed.1.1.1.0;
        whole = ran.closed;
        rows = table ran.run.handed.1.1.1.1.0.now ran.run.handed.1.1.1.1.1.0.now ran.run.handed.1.1.1.1.1.1.0.now;
        before = lists ran.run.handed.1.1.1.1.1.1.1.1.1.1.1.1.1.1.0.now ran.run.handed.1.1.1.1.1.1.1.1.1.1.1.1.1.1.1.0.now ran.run.handed.1.1.1.1.1.1.1.1.1.1.1.1.1.1.1.1.0.now;
      };
      answer = λ ran. ran.run.answer;
      before = λ given. given.before;
      after = λ ran. lists ran.run.left.1.1.1.1.1.1.1.1.1.1.1.1.1.1.0.now ran.run.left.1.1.1.1.1.1.1.1.1.1.1.1.1.1.1.0.now ran.run.left.1.1.1.1.1.1.1.1.1.1.1.1.1.1.1.1.0.now;
      number_in = joined_number;
      numbers = joining_numbers;
      Means = λ given answer after. Joining.AnswersOver given.most given.layers given.target given.closure given.rows given.before answer after;
    }

-- ---- the runs of `joining::join_long` and `joining::join`: 'the target 11 and 12, joining 13 to 17 after these', and 18

pub record RowsGiven : Type 0 where
  pub most : ℕ
  pub layers : Layers
  pub target : ℕ
  pub rows : Table
  pub before : Lists

abbrev pub RightRows : RowsGiven → Joined → Lists → Type 0
RightRows given answer after = Joining.Answers given.most given.layers given.target given.rows given.before answer after

abbrev pub join_numbers : List ℕ
join_numbers = closure_of_target.numbers ++ joining_numbers

-- a table of any length, with the work space that is lent
abbrev pub join_long : Call
join_long =
    record {
      Ran = Run 13 join-long-kinds.ps join-long-kinds.r;
      Asks = λ run. join-long.Pre run.lifetimes run.handed;
      Ensures = λ run. join-long.Post run.lifetimes run.handed run.answer run.left;
      Given = RowsGiven;
      Answer = Joined;
      Buffers = Lists;
      given = λ run. record {
        most = most_long (spaces (length run.handed.1.1.1.1.1.0.now) (length run.handed.1.1.1.1.1.1.0.now) (length run.handed.1.1.1.1.1.1.1.0.now) (length run.handed.1.1.1.1.1.1.1.1.0.now) (length run.handed.1.1.1.1.1.1.1.1.1.0.now) (length run.handed.1.1.1.1.1.1.1.1.1.1.0.now) (length run.handed.1.1.1.1.1.1.1.1.1.1.1.0.now));
        layers = run.handed.0;
        target = run.handed.1.0;
        rows = table run.handed.1.1.0.now run.handed.1.1.1.0.now run.handed.1.1.1.1.0.now;
        before = lists run.handed.1.1.1.1.1.1.1.1.1.1.1.1.0.now run.handed.1.1.1.1.1.1.1.1.1.1.1.1.1.0.now run.handed.1.1.1.1.1.1.1.1.1.1.1.1.1.1.0.now;
      };
      answer = λ run. run.answer;
      before = λ given. given.before;
      after = λ run. lists run.left.1.1.1.1.1.1.1.1.1.1.1.1.0.now run.left.1.1.1.1.1.1.1.1.1.1.1.1.1.0.now run.left.1.1.1.1.1.1.1.1.1.1.1.1.1.1.0.now;
      number_in = joined_number;
      numbers = join_numbers;
      Means = RightRows;
    }

-- a table of at most 512 rows
abbrev pub join_rows : Call
join_rows =
    record {
      Ran = Run 6 join-kinds.ps join-kinds.r;
      Asks = λ run. join.Pre run.lifetimes run.handed;
      Ensures = λ run. join.Post run.lifetimes run.handed run.answer run.left;
      Given = RowsGiven;
      Answer = Joined;
      Buffers = Lists;
      given = λ run. record {
        most = most_rows;
        layers = run.handed.0;
        target = run.handed.1.0;
        rows = table run.handed.1.1.0.now run.handed.1.1.1.0.now run.handed.1.1.1.1.0.now;
        before = lists run.handed.1.1.1.1.1.0.now run.handed.1.1.1.1.1.1.0.now run.handed.1.1.1.1.1.1.1.0.now;
      };
      answer = λ run. run.answer;
      before = λ given. given.before;
      after = λ run. lists run.left.1.1.1.1.1.0.now run.left.1.1.1.1.1.1.0.now run.left.1.1.1.1.1.1.1.0.now;
      number_in = joined_number;
      numbers = join_numbers;
      Means = RightRows;
    }

-- ---- `importing::import`: 1 to 9, 11 to 18

pub record ImportGiven : Type 0 where
  pub reading : Reading
  pub bytes : List ℕ
  pub target : ℕ
  pub rows : Table
  pub before : Lists

abbrev pub import_loop : Call
import_loop =
    record {
      Ran = Run 7 import-kinds.ps import-kinds.r;
      Asks = λ run. import-reads.Pre run.lifetimes run.handed;
      Ensures = λ run. import-reads.Post run.lifetimes run.handed run.answer run.left;
      Given = ImportGiven;
      Answer = Joined;
      Buffers = Lists;
      given = λ run. record {
        reading = run.handed.0;
        bytes = run.handed.1.0.now;
        target = run.handed.1.1.0;
        rows = table run.handed.1.1.1.0.now run.handed.1.1.1.1.0.now run.handed.1.1.1.1.1.0.now;
        before = lists run.handed.1.1.1.1.1.1.0.now run.handed.1.1.1.1.1.1.1.0.now run.handed.1.1.1.1.1.1.1.1.0.now;
      };
      answer = λ run. run.answer;
      before = λ given. given.before;
      after = λ run. lists run.left.1.1.1.1.1.1.0.now run.left.1.1.1.1.1.1.1.0.now run.left.1.1.1.1.1.1.1.1.0.now;
      number_in = joined_number;
      numbers = read_loop.numbers ++ join_numbers;
      Means = λ given answer after. Import.Answers given.reading given.bytes given.target given.rows given.before answer after;
    }
