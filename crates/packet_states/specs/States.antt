-- A RECORDING IN PIECES IN TWO LISTS that a caller owns: where each part of it stands, which lists are a state, and what a state stands for.
-- Assumes nothing.
use Rattle.std.specs.Prelude.{ℕ, ◌-◌, Bool, cond, not, ◌&&◌, ◌||◌, List, [], ◌∷◌, ◌++◌, ltb, leb, eqb, length, get_or, take, drop}
use Rattle.combinators.specs.Lists.{any}
use Rattle.fed_packets.specs.Feeding.{Progress as Known, fed}
use Rattle.feeding.specs.declared.Progress.{Progress}
use Rattle.feeding.specs.Pieces.{known_by}

-- THE BYTES: the layer of each PID, then the packet that is not whole yet, then the last packet of each layer
abbrev pub state_bytes : ℕ
state_bytes = 20412

abbrev pub table_in : List ℕ → List ℕ
table_in state = take 8192 state

abbrev pub part_in : List ℕ → List ℕ
part_in state = take 188 (drop 8192 state)

abbrev pub kept_in : List ℕ → List ℕ
kept_in state = drop 8380 state

abbrev pub state_of : List ℕ → List ℕ → List ℕ → List ℕ
state_of table part kept = table ++ (part ++ kept)

-- THE NUMBERS: for each layer whether it has a last packet, then eight more
abbrev pub state_numbers : ℕ
state_numbers = 72

abbrev pub ends_in : List ℕ → List ℕ
ends_in counts = take 64 counts

abbrev pub progress_in : List ℕ → Progress
progress_in counts =
    record {
      part = get_or counts 64 0;
      number = get_or counts 65 0;
      found =
          record {
            fault = record { number = get_or counts 66 0; packet = get_or counts 67 0 };
            refusal = record { number = get_or counts 68 0; packet = get_or counts 69 0 };
            rows = get_or counts 70 0;
          };
    }

-- 1 where a row found no room, and else 0
abbrev pub no_room_in : List ℕ → ℕ
no_room_in counts = get_or counts 71 0

abbrev pub numbers_of : Progress → ℕ → List ℕ
numbers_of p no_room =
    p.part
    ∷ p.number
    ∷ p.found.fault.number
    ∷ p.found.fault.packet
    ∷ p.found.refusal.number
    ∷ p.found.refusal.packet
    ∷ p.found.rows
    ∷ no_room
    ∷ []

abbrev pub counts_of : Progress → ℕ → List ℕ → List ℕ
counts_of p no_room ends = ends ++ numbers_of p no_room

-- WHICH LISTS ARE A STATE: 'numbers that no recording has' are none. 34 and 25 stand for no fault and no refusal.
abbrev pub past_one : ℕ → Bool
past_one n = ltb 1 n

-- as many packets as are told apart; a recording of a year at a gigabyte a second has fewer
abbrev pub most_packets : ℕ
most_packets = 281474976710656

abbrev pub possible_numbers : ℕ → ℕ → ℕ → ℕ → ℕ → ℕ → Bool
possible_numbers part number fault refusal rows no_room =
    ltb part 188
    && leb number most_packets
    && leb 30 fault
    && leb fault 34
    && leb 20 refusal
    && leb refusal 25
    && leb rows number
    && leb no_room 1
    && leb no_room rows

abbrev pub numbers_possible : List ℕ → Bool
numbers_possible counts = possible_numbers (get_or counts 64 0) (get_or counts 65 0) (get_or counts 66 0) (get_or counts 68 0) (get_or counts 70 0) (get_or counts 71 0)

abbrev pub is_state : List ℕ → List ℕ → Bool
is_state state counts =
    eqb (length state) state_bytes && (eqb (length counts) state_numbers && (not (any past_one (take 64 counts)) && numbers_possible counts))

-- WHAT A STATE STANDS FOR: the layer of each PID, what is known of the recording so far, and whether a row found no room
pub record Standing : Type 0 where
  pub table : List ℕ
  pub known : Known
  pub overflown : Bool

abbrev pub standing : List ℕ → List ℕ → Standing
standing state counts =
    record {
      table = table_in state;
      known = known_by (progress_in counts) (part_in state) (kept_in state) (ends_in counts);
      overflown = eqb (no_room_in counts) 1;
    }

-- ONE PIECE MORE, where there is room for so many rows: what is known goes on over it, and a row past the room is one that found none
abbrev pub fed_on : List ℕ → Standing → Known
fed_on piece s = fed s.table s.known piece

abbrev pub standing_fed : ℕ → List ℕ → Standing → Standing
standing_fed room piece s = record { table = s.table; known = fed_on piece s; overflown = s.overflown || ltb room (fed_on piece s).found.rows }

-- as a number
abbrev pub no_room_after : ℕ → ℕ → ℕ → ℕ
no_room_after no_room room rows = cond (eqb no_room 1) 1 (cond (ltb room rows) 1 0)

-- pieces are taken as long as there are no more bytes in one than packets may come
abbrev pub may_feed : ℕ → List ℕ → List ℕ → Bool
may_feed size state counts = is_state state counts && leb size (most_packets - get_or counts 65 0)
