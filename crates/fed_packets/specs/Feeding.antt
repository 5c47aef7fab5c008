-- A RECORDING IN PIECES: what is known after some of its bytes, what one more piece makes of that, and what is found at its end.
-- Assumes nothing.
use Rattle.std.specs.Prelude.{ℕ, ◌+◌, ◌*◌, ◌/◌, ◌≡◌, List, [], ◌∷◌, ◌++◌, length, take, drop}
use Rattle.packets.specs.Reading.{packet_bytes}
use Rattle.scanning.specs.declared.events.Row.{Row}
use Rattle.scanning.specs.declared.events.Event.TheVariants.{Fault}
use Rattle.scanning.specs.Events.{packets_in, none_yet}
use Rattle.unit_starts.specs.declared.Found.{Found}
use Rattle.unit_starts.specs.Finding.{nothing_found, noted, found_from, rows_from, lasts_over, found_in, rows_in}

-- What is known: the bytes of a packet that is not whole yet, how many packets are, for each layer the last one on its PID, and what was found in them.
pub record Progress : Type 0 where
  pub part : List ℕ
  pub number : ℕ
  pub lasts : List (List ℕ)
  pub found : Found

-- before the first byte
abbrev pub at_first : Progress
at_first = record { part = []; number = 0; lasts = none_yet; found = nothing_found }

-- the whole packets of some bytes, and what is left over
abbrev pub packets_whole : List ℕ → ℕ
packets_whole bytes = length bytes / packet_bytes

abbrev pub whole_of : List ℕ → List ℕ
whole_of bytes = take (packet_bytes * packets_whole bytes) bytes

abbrev pub left_of : List ℕ → List ℕ
left_of bytes = drop (packet_bytes * packets_whole bytes) bytes

module _ (table : List ℕ) where
  -- ONE PIECE MORE: its packets start with the bytes that were left over
  abbrev pub gone_on : Progress → List ℕ → Progress
  gone_on p bytes =
      record {
        part = left_of bytes;
        number = p.number + packets_whole bytes;
        lasts = lasts_over table (packets_in (whole_of bytes)) p.lasts;
        found = found_from table p.number (packets_in (whole_of bytes)) p.lasts p.found;
      }

  abbrev pub fed : Progress → List ℕ → Progress
  fed p piece = gone_on p (p.part ++ piece)

  -- the rows that it gives
  abbrev pub rows_fed : Progress → List ℕ → List Row
  rows_fed p piece = rows_from table p.number (packets_in (whole_of (p.part ++ piece))) p.lasts

  -- several pieces, and all their rows
  abbrev pub fed_all : Progress → List (List ℕ) → Progress
  fed_all p [] = p
  fed_all p (piece ∷ pieces) = fed_all (fed p piece) pieces

  abbrev pub rows_fed_all : Progress → List (List ℕ) → List Row
  rows_fed_all p [] = []
  rows_fed_all p (piece ∷ pieces) = rows_fed p piece ++ rows_fed_all (fed p piece) pieces

-- AT THE END: 'A last part of a packet gives 30 at its number.'
abbrev pub ended_by : Found → ℕ → List ℕ → Found
ended_by found number [] = found
ended_by found number (byte ∷ part) = noted number (Fault 30) found

abbrev pub ended : Progress → Found
ended p = ended_by p.found p.number p.part

-- the bytes of the pieces, one after another
abbrev pub joined_up : List (List ℕ) → List ℕ
joined_up [] = []
joined_up (piece ∷ pieces) = piece ++ joined_up pieces

-- HOWEVER A RECORDING IS CUT: what is found at its end is what is found in the whole, and the rows are its rows.
pub record HoweverCut (table : List ℕ) (pieces : List (List ℕ)) : Type 0 where
  pub finds : ended (fed_all table at_first pieces) ≡ found_in table (joined_up pieces)
  pub gives : rows_fed_all table at_first pieces ≡ rows_in table (joined_up pieces)
