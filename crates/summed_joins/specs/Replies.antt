-- WHAT AN IMPORT OF A RECORDING LEAVES for C: of rows that were read already, and of packets in one call.
-- Assumes nothing.
use Rattle.std.specs.Prelude.{ℕ, List, length}
use Rattle.closure.specs.declared.Layers.{Layers}
use Rattle.rows.specs.Table.{Table}
use Rattle.unit_lists.specs.Sequence.{Lists}
use Rattle.join_answers.specs.Joining.{room_of}
use Rattle.recording_imports.specs.Answer.{RowsRead}
use Rattle.recording_imports.specs.Rows.{rows_of}
use Rattle.recording_imports.specs.Imports.{layers_of_loop, table_of, import_of, count_of, first_rows, rows_held, join_held}
use Rattle.import_summaries.specs.Summaries.{with_summary, ImportReply, import_reply}

-- of rows that lie in the columns t, as many as were read, in a work space for `most`
abbrev pub held_reply : ℕ → Layers → ℕ → Table → RowsRead → Lists → List ℕ → ImportReply
held_reply most layers target t rows before summary =
    import_reply layers (first_rows (count_of (rows_held most t rows)) t)
    (with_summary (length summary) (join_held most layers target t (room_of before) (rows_held most t rows))) before summary

-- of a loop, a target and packets, where there are places for so many rows: the loop's numbers, 11, 12, 30 to 33, 20 to 24, 13 at place 0, 14 to 16, 18, and then 17, also for
-- a summary of fewer than two places
abbrev pub import_placed : ℕ → List ℕ → ℕ → List ℕ → Lists → List ℕ → ImportReply
import_placed places bytes target packets before summary =
    import_reply (layers_of_loop bytes) (table_of (rows_of bytes packets))
    (with_summary (length summary) (import_of places bytes target packets (room_of before))) before summary
