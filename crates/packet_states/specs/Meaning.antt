-- WHAT A STATE IS: two lists whose numbers a recording can have. `is_state` computes it.
-- Assumes nothing.
use Rattle.std.specs.Prelude.{ℕ, ◌≤◌, ◌<◌, ◌≡◌, List, length, get_or}
use Rattle.packet_states.specs.States.{state_bytes, state_numbers, most_packets}

pub record Stated (state counts : List ℕ) : Type 0 where
  -- 'lengths that differ'
  pub long : length state ≡ state_bytes
  pub numbers : length counts ≡ state_numbers
  -- for each layer one last packet, or none
  pub few : (i : ℕ) → i < 64 → get_or counts i 0 ≤ 1
  -- less than a packet is carried, and no more packets were whole than are told apart
  pub short : get_or counts 64 0 < 188
  pub countable : get_or counts 65 0 ≤ most_packets
  -- 30 to 33, or 34 for no fault; 20 to 24, or 25 for no refusal
  pub fault_from : 30 ≤ get_or counts 66 0
  pub fault_to : get_or counts 66 0 ≤ 34
  pub refusal_from : 20 ≤ get_or counts 68 0
  pub refusal_to : get_or counts 68 0 ≤ 25
  -- no more rows than packets; a row that found no room is one of them
  pub rows : get_or counts 70 0 ≤ get_or counts 65 0
  pub flag : get_or counts 71 0 ≤ 1
  pub row_there : get_or counts 71 0 ≤ get_or counts 70 0
