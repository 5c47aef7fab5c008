-- The row of a unit out of the packet in which it starts, read once more.
-- Assumes nothing.
use Rattle.std.specs.Prelude.{ℕ, ◌+◌, ◌-◌, ◌*◌, ◌≤◌, ◌<◌, false, List, length, get_or, drop, Err, Ok}
use Rattle.pes_reader.specs.Answer.{Answer}
use Rattle.pes_reader.specs.Reading.{read_of}
use Rattle.packets.specs.Reading.{packet_bytes, packet_of}
use Rattle.packets.specs.Judging.{payload_at}
use Rattle.scanning.specs.declared.events.Row.{Row}
use Rattle.scanning.specs.Events.{layer_of, packet_at}

-- a header that is refused has no times
abbrev pub row_of : ℕ → ℕ → Answer → Row
row_of layer packet (Ok header) =
    record {
      layer = layer;
      decoding = header.times.decoding;
      matching = header.times.matching;
      tref_sent = header.tref_sent;
      packet = packet;
    }
row_of layer packet (Err refusal) = record { layer = layer; decoding = 0; matching = 0; tref_sent = false; packet = packet }

abbrev pub row_again : List ℕ → ℕ → List ℕ → Row
row_again table number packet = row_of (layer_of table packet) number (read_of (drop (payload_at (packet_of packet)) packet))

-- the row of the packet of a number, where the first packet of the bytes has a number too
abbrev pub row_from : List ℕ → List ℕ → ℕ → ℕ → Row
row_from table bytes first number = row_again table number (packet_at bytes (number - first))

-- packets that stand in the bytes
pub record Inside (bytes : List ℕ) (first number : ℕ) : Type 0 where
  pub from : first ≤ number
  pub within : packet_bytes * (number - first) + packet_bytes ≤ length bytes

abbrev pub Starts : List ℕ → ℕ → List ℕ → Type 0
Starts bytes first starts = (i : ℕ) → i < length starts → Inside bytes first (get_or starts i 0)
