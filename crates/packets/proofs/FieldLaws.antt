-- A packet's header and adaptation field byte by byte: what the code reads off its first six bytes is what the tables say of them.
-- Assumes nothing.
use Prim.Native.Nat.{ℕ, ◌+◌, ◌*◌, ◌/◌, ◌%◌, ◌^◌}
use mathlib.Core.Path.{◌≡◌, ap}
use mathlib.Core.Bool.{cond, ◌&&◌}
use mathlib.Core.List.{List}
use native.Mathlib.Omega.{arith}
use lib.Dec.{eqb, leb}
use lib.ListN.{get_or}
use Rattle.syntax.specs.Table.{AreBytes}
use Rattle.packets.specs.Reading.{in_header, length_of, flag_of, adaptation_of, packet_of}
use Rattle.packets.specs.declared.Adaptation.{Adaptation}
use Rattle.packets.specs.declared.Packet.{Packet}

-- what an adaptation field says, of its control, its length and its byte of flags
abbrev pub adaptation_by : ℕ → ℕ → ℕ → Adaptation
adaptation_by control long flags =
    record {
      adaptation_field_length = cond (leb 2 control) long 0;
      discontinuity_indicator = (leb 2 control && leb (5 + long) 188 && leb 1 long) && eqb (flags / 128) 1;
      has_pcr = (leb 2 control && leb (5 + long) 188 && leb 7 long) && eqb (flags / 16 % 2) 1;
    }

-- what a packet says, of its first two bytes, its PID, its fourth byte and its adaptation field
abbrev pub packet_by : ℕ → ℕ → ℕ → ℕ → Adaptation → Packet
packet_by first second pid fourth adaptation =
    record {
      sync_byte = first;
      transport_error_indicator = eqb (second / 128) 1;
      payload_unit_start_indicator = eqb (second / 64 % 2) 1;
      pid = pid;
      transport_scrambling_control = fourth / 64;
      adaptation_field_control = fourth / 16 % 4;
      continuity_counter = fourth % 16;
      adaptation = adaptation;
    }

module _ (l : List ℕ) (bytes : AreBytes l) where
  control_of_bytes : in_header "adaptation_field_control" l ≡ get_or l 3 0 / 16 % 4
  control_of_bytes = omega (arith, bytes 0, bytes 1, bytes 2, bytes 3)

  length_of_bytes : length_of l ≡ get_or l 4 0
  length_of_bytes = omega (arith, bytes 4)

  discontinuity_of_bytes : flag_of "discontinuity_indicator" l ≡ eqb (get_or l 5 0 / 128) 1
  discontinuity_of_bytes = ap (λ (n : ℕ). eqb n 1) bit
    where
      bit : (get_or l 5 0 * 256 ^ 0 + 0) / 2 ^ 7 % 2 ^ 1 ≡ get_or l 5 0 / 128
      bit = omega (arith, bytes 5)

  pcr_of_bytes : flag_of "PCR_flag" l ≡ eqb (get_or l 5 0 / 16 % 2) 1
  pcr_of_bytes = ap (λ (n : ℕ). eqb n 1) bit
    where
      bit : (get_or l 5 0 * 256 ^ 0 + 0) / 2 ^ 4 % 2 ^ 1 ≡ get_or l 5 0 / 16 % 2
      bit = omega (arith, bytes 5)

  pub adaptation_of_bytes : adaptation_of l ≡ adaptation_by (get_or l 3 0 / 16 % 4) (get_or l 4 0) (get_or l 5 0)
  adaptation_of_bytes =
      λ i. record {
        adaptation_field_length = cond (leb 2 (control_of_bytes i)) (length_of_bytes i) 0;
        discontinuity_indicator = (leb 2 (control_of_bytes i) && leb (5 + length_of_bytes i) 188 && leb 1 (length_of_bytes i)) && discontinuity_of_bytes i;
        has_pcr = (leb 2 (control_of_bytes i) && leb (5 + length_of_bytes i) 188 && leb 7 (length_of_bytes i)) && pcr_of_bytes i;
      }

  pub packet_of_bytes : packet_of l ≡ packet_by (get_or l 0 0) (get_or l 1 0) (get_or l 1 0 % 32 * 256 + get_or l 2 0) (get_or l 3 0) (adaptation_of l)
  packet_of_bytes =
      λ i. record {
        sync_byte = e_sync i;
        transport_error_indicator = eqb (e_error i) 1;
        payload_unit_start_indicator = eqb (e_start i) 1;
        pid = e_pid i;
        transport_scrambling_control = e_scrambling i;
        adaptation_field_control = control_of_bytes i;
        continuity_counter = e_counter i;
        adaptation = adaptation_of l;
      }
    where
      e_sync : in_header "sync_byte" l ≡ get_or l 0 0
      e_sync = omega (arith, bytes 0, bytes 1, bytes 2, bytes 3)

      e_error : in_header "transport_error_indicator" l ≡ get_or l 1 0 / 128
      e_error = omega (arith, bytes 0, bytes 1, bytes 2, bytes 3)

      e_start : in_header "payload_unit_start_indicator" l ≡ get_or l 1 0 / 64 % 2
      e_start = omega (arith, bytes 0, bytes 1, bytes 2, bytes 3)

      e_pid : in_header "PID" l ≡ get_or l 1 0 % 32 * 256 + get_or l 2 0
      e_pid = omega (arith, bytes 0, bytes 1, bytes 2, bytes 3)

      e_scrambling : in_header "transport_scrambling_control" l ≡ get_or l 3 0 / 64
      e_scrambling = omega (arith, bytes 0, bytes 1, bytes 2, bytes 3)

      e_counter : in_header "continuity_counter" l ≡ get_or l 3 0 % 16
      e_counter = omega (arith, bytes 0, bytes 1, bytes 2, bytes 3)
