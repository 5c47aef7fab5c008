-- A RECORDING IN PIECES, FOR C: thq_packets_start, thq_packets_feed and thq_packets_told. The state is two lists of the caller's, whose layout and meaning
-- `packet_states` has; what is no state is no call, and everything is then as it was.
-- Assumes nothing.
use Rattle.std.specs.Prelude.{ℕ, ◌≡◌, Bool, true, false, cond, ◌&&◌, List, eqb, length, Err, Ok}
use Rattle.buffers.specs.Buffers.{over}
use Rattle.sets.specs.Sets.{size}
use Rattle.es_loop.specs.Answer.{Outcome}
use Rattle.loop_layers.specs.declared.table.LayerTable.{LayerTable}
use Rattle.unit_starts.specs.declared.Found.{Found}
use Rattle.recording_rows.specs.Columns.{Columns, room_in}
use Rattle.recordings.specs.Answer.{Recording}
use Rattle.recordings.specs.Reading.{answer_of}
use Rattle.recording_imports.specs.Rows.{loop_layers, pid_table_of, rows_told}
use Rattle.passing.specs.Passing.{stored_from, with_room}
use Rattle.fed_packets.specs.Feeding.{rows_fed}
use Rattle.piece_feeding.specs.Told.{starts_with, no_ends, found_at_end}
use Rattle.packet_states.specs.States.{state_bytes, state_numbers, is_state, progress_in, no_room_in, counts_of, Standing, standing, fed_on, standing_fed, may_feed}
use Rattle.c_answers.specs.Answers.{accepted, refused, not_a_call}
use Rattle.packet_answers.specs.Answers.{rows_answer}

-- What a call leaves of a state: its answer, and the final content of the two lists.
pub record StateReply : Type 0 where
  pub answer : ℕ
  pub state : List ℕ
  pub counts : List ℕ

abbrev pub state_reply : ℕ → List ℕ → List ℕ → StateReply
state_reply answer state counts = record { answer = answer; state = state; counts = counts }

-- THE START: the layers of the loop by their PIDs, and nothing known yet. 'Counts the layers.'
abbrev pub begun : LayerTable → List ℕ → StateReply
begun table state = state_reply (accepted (size table.layers.present)) (over (pid_table_of table) state) (counts_of starts_with 0 no_ends)

abbrev pub begun_by : Outcome → LayerTable → List ℕ → List ℕ → StateReply
begun_by (Ok tt) table state counts = begun table state
begun_by (Err refusal) table state counts = state_reply (refused refusal) state counts

abbrev pub start_call : List ℕ → List ℕ → List ℕ → StateReply
start_call bytes state counts =
    cond (eqb (length state) state_bytes && eqb (length counts) state_numbers) (begun_by (loop_layers bytes).outcome (loop_layers bytes).table state counts)
    (state_reply not_a_call state counts)

-- ONE PIECE MORE. 'Counts the rows so far, those that found no room too.'
abbrev pub feed_answer : List ℕ → List ℕ → List ℕ → ℕ
feed_answer piece state counts = cond (may_feed (length piece) state counts) (accepted (fed_on piece (standing state counts)).found.rows) not_a_call

-- 'Rows are laid behind those before, as far as the shortest column has room.'
abbrev pub rows_laid : List ℕ → Standing → Columns → Columns
rows_laid piece s old = stored_from s.known.found.rows (with_room (room_in old) s.known.found.rows (rows_fed s.table s.known piece)) old

abbrev pub feed_columns : List ℕ → List ℕ → List ℕ → Columns → Columns
feed_columns piece state counts old = cond (may_feed (length piece) state counts) (rows_laid piece (standing state counts) old) old

-- the two lists are a state again, which stands for what was known gone on over the piece
abbrev pub Becomes : Bool → ℕ → List ℕ → List ℕ → List ℕ → List ℕ → List ℕ → Type 0
Becomes true room piece state counts new_state new_counts =
    (is_state new_state new_counts ≡ true) × (standing new_state new_counts ≡ standing_fed room piece (standing state counts))
Becomes false room piece state counts new_state new_counts = (new_state ≡ state) × (new_counts ≡ counts)

pub record FeedCall (piece state counts : List ℕ) (old : Columns) (answer : ℕ) (new_state new_counts : List ℕ) (new : Columns) : Type 0 where
  pub answers : answer ≡ feed_answer piece state counts
  pub lays : new ≡ feed_columns piece state counts old
  pub becomes : Becomes (may_feed (length piece) state counts) (room_in old) piece state counts new_state new_counts

-- THE END, or what it would be: 'a part of a packet left over gives 30'; a row that found no room gives 13 at place 0
abbrev pub room_told : ℕ → ℕ → ℕ
room_told no_room rows = cond (eqb no_room 1) 0 rows

abbrev pub told_of : Found → ℕ → Recording
told_of found no_room = answer_of found (room_told no_room found.rows)

abbrev pub told_by : List ℕ → Recording
told_by counts = told_of (found_at_end (progress_in counts)) (no_room_in counts)

abbrev pub told_call : List ℕ → List ℕ → ℕ
told_call state counts = cond (is_state state counts) (rows_answer (rows_told (told_by counts))) not_a_call
