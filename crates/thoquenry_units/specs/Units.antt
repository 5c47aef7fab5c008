-- THE UNITS OF A RECORDING THAT WAS FED, FOR C: thq_packets_units. What is no state is no call, and everything is then as it was.
-- Assumes nothing.
use Rattle.std.specs.Prelude.{ℕ, cond, List, length}
use Rattle.rows.specs.Table.{Table}
use Rattle.unit_lists.specs.Sequence.{Lists}
use Rattle.join_answers.specs.Joining.{room_of}
use Rattle.recordings.specs.Answer.{Recording}
use Rattle.recording_imports.specs.Imports.{layers_of_loop, first_rows, count_of, rows_to_join, import_told}
use Rattle.import_summaries.specs.Summaries.{with_summary, ImportReply, import_reply}
use Rattle.packet_states.specs.States.{is_state}
use Rattle.c_answers.specs.Answers.{not_a_call}
use Rattle.thoquenry_pieces.specs.Calls.{told_by}

-- of a recording with its answer, whose rows lie in the columns: 'the loop's numbers; 11, 12; what thq_packets_told answers; 13 also where the columns are shorter than
-- the rows or the work space too small; then joining as thq_join_long over the first rows of the columns'
abbrev pub units_told : ℕ → List ℕ → ℕ → Recording → Table → Lists → List ℕ → ImportReply
units_told most bytes target recording t before summary =
    import_reply (layers_of_loop bytes) (first_rows (count_of (rows_to_join most bytes target recording t)) t)
    (with_summary (length summary) (import_told most bytes target recording t (room_of before))) before summary

abbrev pub units_call : ℕ → List ℕ → ℕ → List ℕ → List ℕ → Table → Lists → List ℕ → ImportReply
units_call most bytes target state counts t before summary =
    cond (is_state state counts) (units_told most bytes target (told_by counts) t before summary) (record { answer = not_a_call; after = before; summary = summary })
