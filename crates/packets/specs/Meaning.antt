-- WHAT IS JUDGED OF ONE PACKET, in the request's words and by the names of the standard's tables. The laws that join this to the tests are in
-- proofs/Meant.antt, both ways.
-- Assumes nothing.
use Rattle.std.specs.Prelude.{ℕ, ◌+◌, ◌≤◌, ◌<◌, ◌≡◌, List, length, drop}
use Rattle.syntax.specs.Table.{number, bytes}
use Rattle.syntax.specs.Named.{named}
use Rattle.pes_fields.specs.Tables.{head}
use Rattle.packets.specs.Tables.{adaptation_flags, pcr}
use Rattle.packets.specs.Reading.{packet_bytes, line, in_header, adaptation_at, flags_at, length_of}

-- 30: 'lost sync': sync 0x47
abbrev pub LostSync : List ℕ → Type 0
LostSync packet = in_header "sync_byte" packet ≡ 0x47 → ⊥

-- 'A packet with its error bit set or adaptation control 00 is skipped whole.'
pub data Skipped (packet : List ℕ) : Type 0 where
  error_bit : in_header "transport_error_indicator" packet ≡ 1 → Skipped packet
  control_00 : in_header "adaptation_field_control" packet ≡ 0b00 → Skipped packet

-- A packet has an adaptation field, of a length that stands before its flags.
pub data AdaptationField (packet : List ℕ) : ℕ → Type 0 where
  control_10 : in_header "adaptation_field_control" packet ≡ 0b10 → AdaptationField packet (length_of packet)
  control_11 : in_header "adaptation_field_control" packet ≡ 0b11 → AdaptationField packet (length_of packet)

-- A packet has a payload, from a place on: after the header, or after the adaptation field.
pub data Payload (packet : List ℕ) : ℕ → Type 0 where
  after_header : in_header "adaptation_field_control" packet ≡ 0b01 → Payload packet adaptation_at
  after_adaptation : in_header "adaptation_field_control" packet ≡ 0b11 → Payload packet (flags_at + length_of packet)

-- A flag of the adaptation field is set: the field is there, within the packet, long enough for what the flag speaks of, and the flag is 1.
pub record FlagSet (packet : List ℕ) (least flag : ℕ) : Type 0 where
  pub long : ℕ
  pub field : AdaptationField packet long
  pub within : flags_at + long ≤ packet_bytes
  pub enough : least ≤ long
  pub set : flag ≡ 1

-- 'the packet's own adaptation field (length 1 or more, within the packet) sets the discontinuity indicator'
abbrev pub Discontinuity : List ℕ → Type 0
Discontinuity packet = FlagSet packet (bytes adaptation_flags) (line "discontinuity_indicator" adaptation_flags flags_at packet)

-- the packet has a PCR, whose bytes are within the adaptation field
abbrev pub HasPcr : List ℕ → Type 0
HasPcr packet = FlagSet packet (bytes adaptation_flags + bytes pcr) (line "PCR_flag" adaptation_flags flags_at packet)

-- 'a PES header (9 bytes and its data)' is within a payload
pub record HeaderWithin (payload : List ℕ) : Type 0 where
  pub nine : bytes head ≤ length payload
  pub its_data : bytes head + named "PES_header_data_length" head (number (bytes head) payload) ≤ length payload

-- 32: 'an adaptation field, or a PES header .., not within its packet'; of a header only at a unit start with clear payload
pub data Outside (packet : List ℕ) : Type 0 where
  adaptation_field : {long : ℕ} → AdaptationField packet long → packet_bytes < flags_at + long → Outside packet
  pes_header : {at : ℕ} → Payload packet at → in_header "payload_unit_start_indicator" packet ≡ 1
      → in_header "transport_scrambling_control" packet ≡ 0b00 → (HeaderWithin (drop at packet) → ⊥) → Outside packet

-- 33: 'scrambled payload'
pub record Scrambled (packet : List ℕ) : Type 0 where
  pub at : ℕ
  pub payload : Payload packet at
  pub bits : in_header "transport_scrambling_control" packet ≡ 0b00 → ⊥
