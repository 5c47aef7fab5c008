-- Packets of a few bytes' interest, computed: the rest of each is 0xFF.
-- Assumes nothing.
use Rattle.std.specs.Prelude.{ℕ, ◌-◌, ◌≡◌, refl, true, false, List, [], ◌∷◌, ◌++◌, length, replicate}
use Rattle.packets.specs.Reading.{packet_bytes, packet_of}
use Rattle.packets.specs.Judging.{lost_sync, is_skipped, payload_at, is_outside, is_scrambled}

-- bytes, and 0xFF up to the packet's end
abbrev pub filled : List ℕ → List ℕ
filled front = front ++ replicate (packet_bytes - length front) 0xFF

-- PID 0x101, a unit start, payload only, counter 5; the PES header has 5 bytes of data
abbrev start : List ℕ
start = filled (0x47 ∷ 0x41 ∷ 0x01 ∷ 0x15 ∷ 0x00 ∷ 0x00 ∷ 0x01 ∷ 0xE0 ∷ 0x00 ∷ 0x00 ∷ 0x84 ∷ 0x80 ∷ 0x05 ∷ [])

start_read : packet_of start
    ≡ record {
      sync_byte = 0x47;
      transport_error_indicator = false;
      payload_unit_start_indicator = true;
      pid = 0x101;
      transport_scrambling_control = 0;
      adaptation_field_control = 0b01;
      continuity_counter = 5;
      adaptation = record { adaptation_field_length = 0; discontinuity_indicator = false; has_pcr = false };
    }
start_read = refl

start_fits : is_outside (packet_of start) start ≡ false
start_fits = refl

-- an adaptation field with the discontinuity indicator and a PCR, payload after it
abbrev with_pcr : List ℕ
with_pcr = filled (0x47 ∷ 0x01 ∷ 0x01 ∷ 0x36 ∷ 0x07 ∷ 0x90 ∷ [])

pcr_read : (packet_of with_pcr).adaptation ≡ record { adaptation_field_length = 7; discontinuity_indicator = true; has_pcr = true }
pcr_read = refl

payload_after_it : payload_at (packet_of with_pcr) ≡ 12
payload_after_it = refl

-- a PCR flag in a field of one byte is no PCR; an indicator in a field that leaves the packet is not set
short_field : (packet_of (filled (0x47 ∷ 0x01 ∷ 0x01 ∷ 0x36 ∷ 0x01 ∷ 0x90 ∷ []))).adaptation.has_pcr ≡ false
short_field = refl

long_field : (packet_of (filled (0x47 ∷ 0x01 ∷ 0x01 ∷ 0x36 ∷ 0xB8 ∷ 0x90 ∷ []))).adaptation.discontinuity_indicator ≡ false
long_field = refl

-- 32: 5 + 183 is the packet's end, and 5 + 184 is past it
up_to_the_end : is_outside (packet_of (filled (0x47 ∷ 0x01 ∷ 0x01 ∷ 0x26 ∷ 0xB7 ∷ []))) (filled (0x47 ∷ 0x01 ∷ 0x01 ∷ 0x26 ∷ 0xB7 ∷ [])) ≡ false
up_to_the_end = refl

past_the_end : is_outside (packet_of (filled (0x47 ∷ 0x01 ∷ 0x01 ∷ 0x26 ∷ 0xB8 ∷ []))) (filled (0x47 ∷ 0x01 ∷ 0x01 ∷ 0x26 ∷ 0xB8 ∷ [])) ≡ true
past_the_end = refl

-- 32: a header of 9 bytes and 175 of data fills the packet, and one of 176 does not fit
abbrev data_of : ℕ → List ℕ
data_of long = filled (0x47 ∷ 0x41 ∷ 0x01 ∷ 0x15 ∷ 0x00 ∷ 0x00 ∷ 0x01 ∷ 0xE0 ∷ 0x00 ∷ 0x00 ∷ 0x84 ∷ 0x80 ∷ long ∷ [])

header_fills : is_outside (packet_of (data_of 175)) (data_of 175) ≡ false
header_fills = refl

header_too_long : is_outside (packet_of (data_of 176)) (data_of 176) ≡ true
header_too_long = refl

-- a unit start with no room for 9 bytes: the adaptation field leaves 8
eight_left : is_outside (packet_of (filled (0x47 ∷ 0x41 ∷ 0x01 ∷ 0x36 ∷ 0xAF ∷ []))) (filled (0x47 ∷ 0x41 ∷ 0x01 ∷ 0x36 ∷ 0xAF ∷ [])) ≡ true
eight_left = refl

-- 33, and then the header's length is not judged; scrambling bits on a packet without payload are nothing
scrambled_start : is_scrambled (packet_of (filled (0x47 ∷ 0x41 ∷ 0x01 ∷ 0xD5 ∷ []))) ≡ true
scrambled_start = refl

not_judged : is_outside (packet_of (filled (0x47 ∷ 0x41 ∷ 0x01 ∷ 0xD5 ∷ []))) (filled (0x47 ∷ 0x41 ∷ 0x01 ∷ 0xD5 ∷ [])) ≡ false
not_judged = refl

no_payload : is_scrambled (packet_of (filled (0x47 ∷ 0x41 ∷ 0x01 ∷ 0xE5 ∷ 0xB7 ∷ []))) ≡ false
no_payload = refl

-- skipped whole; 30 is judged all the same
error_bit : is_skipped (packet_of (filled (0x47 ∷ 0x81 ∷ 0x01 ∷ 0x15 ∷ []))) ≡ true
error_bit = refl

control_00 : is_skipped (packet_of (filled (0x47 ∷ 0x01 ∷ 0x01 ∷ 0x05 ∷ []))) ≡ true
control_00 = refl

other_byte : lost_sync (packet_of (filled (0x46 ∷ 0x81 ∷ 0x01 ∷ 0x15 ∷ []))) ≡ true
other_byte = refl
