-- THE ROWS OF A RECORDING for C: thq_packets_rows.
-- Assumes nothing.
use Rattle.std.specs.Prelude.{ℕ, List}
use Rattle.recording_rows.specs.Columns.{Columns}
use Rattle.recording_imports.specs.Rows.{rows_under, columns_under}
use Rattle.packet_answers.specs.Answers.{rows_answer}

-- What the call leaves: 'Counts the rows', or the loop's number, 30 to 33, 20 to 24, 13; and what the five columns then hold
pub record RowsReply : Type 0 where
  pub answer : ℕ
  pub after : Columns

abbrev pub rows_call : List ℕ → List ℕ → ℕ → Columns → RowsReply
rows_call bytes packets places before =
    record { answer = rows_answer (rows_under bytes packets places before); after = columns_under bytes packets (rows_under bytes packets places before) before }
