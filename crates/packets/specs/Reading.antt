-- What one packet says, by the tables: its header, and of its adaptation field, where it has one, the length, the discontinuity indicator and
-- whether there is a PCR.
-- Assumes nothing.
use Rattle.std.specs.Prelude.{ℕ, ◌+◌, Bool, cond, ◌&&◌, List, eqb, leb, length, None, Some}
use Prim.Native.String.{String}
use Rattle.syntax.specs.Table.{Table, bytes, number_from}
use Rattle.syntax.specs.Named.{named}
use Rattle.packets.specs.Tables.{header, adaptation_length, adaptation_flags, pcr}
use Rattle.packets.specs.declared.Adaptation.{Adaptation}
use Rattle.packets.specs.declared.Packet.{Packet}
use Rattle.packets.specs.Answer.{Answer}

-- the bytes of a packet
abbrev pub packet_bytes : ℕ
packet_bytes = 188

-- the number of a table's line, where the table stands so many bytes after the packet's start
abbrev pub line : String → Table → ℕ → List ℕ → ℕ
line name t at packet = named name t (number_from at (bytes t) packet)

abbrev pub in_header : String → List ℕ → ℕ
in_header name packet = line name header 0 packet

-- where the adaptation field, its flags and the PCR stand, if they are there: each after what stands before it
abbrev pub adaptation_at : ℕ
adaptation_at = bytes header

abbrev pub flags_at : ℕ
flags_at = adaptation_at + bytes adaptation_length

abbrev pub pcr_at : ℕ
pcr_at = flags_at + bytes adaptation_flags

abbrev pub pcr_end : ℕ
pcr_end = pcr_at + bytes pcr

-- an adaptation field is there where its control is '10' or '11'
abbrev pub with_adaptation : ℕ → Bool
with_adaptation control = leb 0b10 control

abbrev pub length_of : List ℕ → ℕ
length_of packet = line "adaptation_field_length" adaptation_length adaptation_at packet

abbrev pub flag_of : String → List ℕ → Bool
flag_of name packet = eqb (line name adaptation_flags flags_at packet) 1

-- whether the adaptation field is there, ends within the packet, and has so many bytes after its length
abbrev pub reaches : ℕ → List ℕ → Bool
reaches least packet =
    with_adaptation (in_header "adaptation_field_control" packet) && leb (flags_at + length_of packet) packet_bytes && leb least (length_of packet)

-- The adaptation field: its length, 0 where there is none; its discontinuity indicator, and whether it has a PCR. A flag that it does not reach, and
-- any flag of a field that leaves the packet, is not set.
abbrev pub adaptation_of : List ℕ → Adaptation
adaptation_of packet =
    record {
      adaptation_field_length = cond (with_adaptation (in_header "adaptation_field_control" packet)) (length_of packet) 0;
      discontinuity_indicator = reaches (bytes adaptation_flags) packet && flag_of "discontinuity_indicator" packet;
      has_pcr = reaches (bytes adaptation_flags + bytes pcr) packet && flag_of "PCR_flag" packet;
    }

abbrev pub packet_of : List ℕ → Packet
packet_of packet =
    record {
      sync_byte = in_header "sync_byte" packet;
      transport_error_indicator = eqb (in_header "transport_error_indicator" packet) 1;
      payload_unit_start_indicator = eqb (in_header "payload_unit_start_indicator" packet) 1;
      pid = in_header "PID" packet;
      transport_scrambling_control = in_header "transport_scrambling_control" packet;
      adaptation_field_control = in_header "adaptation_field_control" packet;
      continuity_counter = in_header "continuity_counter" packet;
      adaptation = adaptation_of packet;
    }

-- what is answered for any bytes
abbrev pub read_of : List ℕ → Answer
read_of packet = cond (eqb (length packet) packet_bytes) (Some (packet_of packet)) None
