-- `recording_imports::read_rows`: THE ROWS OF A RECORDING UNDER A LOOP, as a call, and its promise: 1 to 9, 13, 20 to 24, 30 to 33.
-- Assumes nothing.
use Rattle.std.specs.Prelude.{ℕ, min, List, ◌++◌, length, Err, Ok}
use Rattle.std.proofs.Math.Option.{Option, none, some}
use Rattle.vocabulary.specs.Refusals.{number_of}
use Rattle.recording_rows.specs.Columns.{Columns, columns, room_in}
use Rattle.recording_imports.specs.Answer.{RowsRead}
use Rattle.recording_imports.specs.declared.Unread.TheVariants.{Refused, NotRead}
use Rattle.recording_imports.proofs.read_rows.Kinds as read-rows-kinds
use Rattle.recording_imports.proofs.read_rows.Reads as read-rows
use Rattle.recording_meaning.specs.Rows.{ReadsRows}
use Rattle.promised.specs.Calls.{Run, Call}
use Rattle.promised.specs.Readers.{read_loop}
use Rattle.recording_promises.specs.Numbers.{recording_numbers}

pub record RowsGiven : Type 0 where
  pub bytes : List ℕ
  pub packets : List ℕ
  pub places : ℕ
  pub before : Columns

abbrev pub rows_number : RowsRead → Option ℕ
rows_number (Ok count) = none
rows_number (Err (Refused refusal)) = some (number_of refusal)
rows_number (Err (NotRead refusal packet)) = some (number_of refusal)

abbrev pub read_rows : Call
read_rows =
    record {
      Ran = Run 8 read-rows-kinds.ps read-rows-kinds.r;
      Asks = λ run. read-rows.Pre run.lifetimes run.handed;
      Ensures = λ run. read-rows.Post run.lifetimes run.handed run.answer run.left;
      Given = RowsGiven;
      Answer = RowsRead;
      Buffers = Columns;
      given = λ run. record {
        bytes = run.handed.0.now;
        packets = run.handed.1.0.now;
        places = length run.handed.1.1.0.now;
        before = columns run.handed.1.1.1.0.now run.handed.1.1.1.1.0.now run.handed.1.1.1.1.1.0.now run.handed.1.1.1.1.1.1.0.now run.handed.1.1.1.1.1.1.1.0.now;
      };
      answer = λ run. run.answer;
      before = λ given. given.before;
      after = λ run. columns run.left.1.1.1.0.now run.left.1.1.1.1.0.now run.left.1.1.1.1.1.0.now run.left.1.1.1.1.1.1.0.now run.left.1.1.1.1.1.1.1.0.now;
      number_in = rows_number;
      numbers = read_loop.numbers ++ recording_numbers;
      Means = λ given answer after. ReadsRows given.bytes given.packets (min given.places (room_in given.before)) given.before answer after;
    }
