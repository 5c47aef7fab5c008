-- HOWEVER A RECORDING IS CUT: what the functions for C leave, called one after another, and that it is what one call over all bytes gives.
-- Assumes nothing.
use Rattle.std.specs.Prelude.{ℕ, ◌≤◌, ◌≡◌, true, List, [], ◌∷◌, ◌++◌, length, Ok}
use Rattle.recording_rows.specs.Columns.{Columns, room_in}
use Rattle.recording_imports.specs.Rows.{loop_layers, rows_of, rows_under, columns_under}
use Rattle.passing.specs.Passing.{stored_from, with_room}
use Rattle.fed_packets.specs.Feeding.{joined_up}
use Rattle.packet_states.specs.States.{state_bytes, state_numbers, is_state}
use Rattle.thoquenry_packets.specs.Calls.{rows_call}
use Rattle.thoquenry_pieces.specs.Calls.{state_reply, start_call, FeedCall, told_call}

-- A RECORDING FED: a state that thq_packets_start has begun with a loop, and thq_packets_feed has fed these pieces, one after another, into the same columns. It says
-- which pieces, what the two lists of the state hold, and what the columns hold.
pub data Recorded (bytes : List ℕ) (before : Columns) : List (List ℕ) → List ℕ → List ℕ → Columns → Type 0 where
  started : (state counts : List ℕ) {answer : ℕ} {new_state new_counts : List ℕ} → length state ≡ state_bytes → length counts ≡ state_numbers
      → (loop_layers bytes).outcome ≡ Ok tt → state_reply answer new_state new_counts ≡ start_call bytes state counts
      → Recorded bytes before [] new_state new_counts before
  fed_on : {pieces : List (List ℕ)} {state counts piece new_state new_counts : List ℕ} {answer : ℕ} {between after : Columns}
      → Recorded bytes before pieces state counts between → FeedCall piece state counts between answer new_state new_counts after
      → Recorded bytes before (pieces ++ piece ∷ []) new_state new_counts after

-- AS THE WHOLE: thq_packets_told answers what thq_packets_rows answers of all bytes, given work space for as many rows as the columns hold; the columns hold the rows
-- as far as there is room, and where that call accepts what it lays.
pub record AsTheWhole (bytes : List ℕ) (before : Columns) (pieces : List (List ℕ)) (state counts : List ℕ) (after : Columns) : Type 0 where
  pub still_a_state : is_state state counts ≡ true
  pub tells : (places : ℕ) → room_in before ≤ places → told_call state counts ≡ (rows_call bytes (joined_up pieces) places before).answer
  pub holds : after ≡ stored_from 0 (with_room (room_in before) 0 (rows_of bytes (joined_up pieces))) before
  pub lays : (places count : ℕ) → room_in before ≤ places → rows_under bytes (joined_up pieces) places before ≡ Ok count
      → after ≡ columns_under bytes (joined_up pieces) (Ok count) before
