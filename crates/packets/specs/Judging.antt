-- What one packet is judged for by itself: 30, whether it is skipped whole, 32 and 33. Each is a test of its fields.
-- Assumes nothing.
use Rattle.std.specs.Prelude.{ℕ, ◌+◌, ◌%◌, Bool, cond, not, ◌&&◌, ◌||◌, List, eqb, leb, ltb, length, drop}
use Rattle.syntax.specs.Table.{number, bytes}
use Rattle.syntax.specs.Named.{named}
use Rattle.pes_fields.specs.Tables.{head}
use Rattle.packets.specs.Reading.{packet_bytes, adaptation_at, flags_at, with_adaptation}
use Rattle.packets.specs.declared.Packet.{Packet}

-- 30: 'lost sync'
abbrev pub lost_sync : Packet → Bool
lost_sync p = not (eqb p.sync_byte 0x47)

-- 'A packet with its error bit set or adaptation control 00 is skipped whole.'
abbrev pub is_skipped : Packet → Bool
is_skipped p = p.transport_error_indicator || eqb p.adaptation_field_control 0b00

-- '01' and '11' have a payload
abbrev pub with_payload : Packet → Bool
with_payload p = eqb (p.adaptation_field_control % 2) 1

-- where the payload starts: after the header, or after the adaptation field
abbrev pub payload_at : Packet → ℕ
payload_at p = cond (with_adaptation p.adaptation_field_control) (flags_at + p.adaptation.adaptation_field_length) adaptation_at

-- 32: 'an adaptation field .. not within its packet'
abbrev pub adaptation_outside : Packet → Bool
adaptation_outside p = with_adaptation p.adaptation_field_control && ltb packet_bytes (flags_at + p.adaptation.adaptation_field_length)

-- a unit starts in a payload that is not scrambled
abbrev pub starts_clear : Packet → Bool
starts_clear p = with_payload p && p.payload_unit_start_indicator && eqb p.transport_scrambling_control 0b00

-- 32: 'a PES header (9 bytes and its data)', by length alone
abbrev pub header_within : List ℕ → Bool
header_within payload =
    leb (bytes head) (length payload) && leb (bytes head + named "PES_header_data_length" head (number (bytes head) payload)) (length payload)

abbrev pub header_outside : Packet → List ℕ → Bool
header_outside p packet = starts_clear p && not (header_within (drop (payload_at p) packet))

abbrev pub is_outside : Packet → List ℕ → Bool
is_outside p packet = adaptation_outside p || header_outside p packet

-- 33: 'scrambled payload'
abbrev pub is_scrambled : Packet → Bool
is_scrambled p = with_payload p && not (eqb p.transport_scrambling_control 0b00)
