-- The laws that join what one packet is judged for to what that means, both ways.
-- Assumes nothing.
use Prim.Native.Nat.{ℕ, ◌+◌, ◌%◌, ◌<◌}
use mathlib.Core.Path.{◌≡◌, refl, ap, ap₂, ◌∙◌}
use mathlib.Core.Bool.{Bool, true, false, not, ◌&&◌}
use mathlib.Core.List.{List}
use mathlib.Core.Logic.{⊎_elim}
use native.Mathlib.Omega.{arith}
use borrow.Author.Tests.{ltb-true, leb-true, leb-false, eqb-true, eqb-false, lt-ltb, le-leb, lt-leb, eq-eqb, ne_eqb, not-true}
use lib.Dec.{eqb, leb, ltb}
use lib.ListN.{length, drop}
use Rattle.syntax.specs.Table.{number, bytes}
use Rattle.syntax.specs.Named.{named}
use Rattle.combinators.specs.Bools.{both_left, both_right, either_left, either_right, either_which, false_unless, both_ways}
use Rattle.pes_fields.specs.Tables.{head}
use Rattle.packets.specs.Tables.{adaptation_flags, pcr}
use Rattle.packets.specs.Reading.{line, in_header, flags_at, with_adaptation, length_of, reaches, packet_of}
use Rattle.packets.specs.Judging.{lost_sync, is_skipped, with_payload, payload_at, adaptation_outside, starts_clear, header_within, header_outside, is_outside, is_scrambled}
use Rattle.packets.specs.Meaning.{LostSync, Skipped, error_bit, control_00, AdaptationField, control_10, control_11, Payload, after_header, after_adaptation, FlagSet, Discontinuity, HasPcr, HeaderWithin, Outside, adaptation_field, pes_header, Scrambled}

module _ (packet : List ℕ) where
  -- 30
  pub sync_meant : lost_sync (packet_of packet) ≡ true → LostSync packet
  sync_meant e = eqb-false (in_header "sync_byte" packet) 0x47 (not-true (eqb (in_header "sync_byte" packet) 0x47) e)

  pub sync_only : LostSync packet → lost_sync (packet_of packet) ≡ true
  sync_only h = ap not (ne_eqb (in_header "sync_byte" packet) 0x47 h)

  -- skipped whole
  pub skipped_meant : is_skipped (packet_of packet) ≡ true → Skipped packet
  skipped_meant e =
      ⊎_elim
      (λ (h : eqb (in_header "transport_error_indicator" packet) 1 ≡ true). error_bit (eqb-true (in_header "transport_error_indicator" packet) 1 h))
      (λ (h : eqb (in_header "adaptation_field_control" packet) 0b00 ≡ true). control_00 (eqb-true (in_header "adaptation_field_control" packet) 0b00 h))
      (either_which (eqb (in_header "transport_error_indicator" packet) 1) (eqb (in_header "adaptation_field_control" packet) 0b00) e)

  pub skipped_only : Skipped packet → is_skipped (packet_of packet) ≡ true
  skipped_only (error_bit h) =
      either_left (eqb (in_header "transport_error_indicator" packet) 1) (eqb (in_header "adaptation_field_control" packet) 0b00)
      (eq-eqb (in_header "transport_error_indicator" packet) 1 h)
  skipped_only (control_00 h) =
      either_right (eqb (in_header "transport_error_indicator" packet) 1) (eqb (in_header "adaptation_field_control" packet) 0b00)
      (eq-eqb (in_header "adaptation_field_control" packet) 0b00 h)

  -- an adaptation field, and a payload
  pub adaptation_meant : with_adaptation (in_header "adaptation_field_control" packet) ≡ true → AdaptationField packet (length_of packet)
  adaptation_meant e = by_test (eqb (in_header "adaptation_field_control" packet) 0b10) refl
    where
      by_test : (t : Bool) → eqb (in_header "adaptation_field_control" packet) 0b10 ≡ t → AdaptationField packet (length_of packet)
      by_test true h = control_10 (eqb-true (in_header "adaptation_field_control" packet) 0b10 h)
      by_test false h =
          let other = eqb-false (in_header "adaptation_field_control" packet) 0b10 h in
          let high = leb-true 2 (in_header "adaptation_field_control" packet) e in
          control_11 (omega arith)

  pub adaptation_only : {long : ℕ} → AdaptationField packet long
      → with_adaptation (in_header "adaptation_field_control" packet) && eqb (length_of packet) long ≡ true
  adaptation_only (control_10 h) =
      ap₂ ◌&&◌ (le-leb 2 (in_header "adaptation_field_control" packet) (omega arith)) (eq-eqb (length_of packet) (length_of packet) refl)
  adaptation_only (control_11 h) =
      ap₂ ◌&&◌ (le-leb 2 (in_header "adaptation_field_control" packet) (omega arith)) (eq-eqb (length_of packet) (length_of packet) refl)

  -- that it is there, and how long it is
  field_there : {long : ℕ} → AdaptationField packet long → with_adaptation (in_header "adaptation_field_control" packet) ≡ true
  field_there {long} f = both_left (with_adaptation (in_header "adaptation_field_control" packet)) (eqb (length_of packet) long) (adaptation_only f)

  field_long : {long : ℕ} → AdaptationField packet long → length_of packet ≡ long
  field_long {long} f =
      eqb-true (length_of packet) long (both_right (with_adaptation (in_header "adaptation_field_control" packet)) (eqb (length_of packet) long) (adaptation_only f))

  pub payload_meant : with_payload (packet_of packet) ≡ true → Payload packet (payload_at (packet_of packet))
  payload_meant e = by_test (with_adaptation (in_header "adaptation_field_control" packet)) refl
    where
      odd : in_header "adaptation_field_control" packet % 2 ≡ 1
      odd = eqb-true (in_header "adaptation_field_control" packet % 2) 1 e

      by_test : (t : Bool) → with_adaptation (in_header "adaptation_field_control" packet) ≡ t → Payload packet (payload_at (packet_of packet))
      by_test true h =
          let high = leb-true 2 (in_header "adaptation_field_control" packet) h in
          rw h (after_adaptation (omega (arith, odd)))
      by_test false h =
          let low = leb-false 2 (in_header "adaptation_field_control" packet) h in
          rw h (after_header (omega (arith, odd)))

  pub payload_only : {at : ℕ} → Payload packet at → with_payload (packet_of packet) && eqb (payload_at (packet_of packet)) at ≡ true
  payload_only (after_header h) =
      ap₂ ◌&&◌ (eq-eqb (in_header "adaptation_field_control" packet % 2) 1 (omega arith))
      (eq-eqb (payload_at (packet_of packet)) 4 (rw (lt-leb 2 (in_header "adaptation_field_control" packet) (omega arith))))
  payload_only (after_adaptation h) =
      ap₂ ◌&&◌ (eq-eqb (in_header "adaptation_field_control" packet % 2) 1 (omega arith))
      (eq-eqb (payload_at (packet_of packet)) (5 + length_of packet) (rw (le-leb 2 (in_header "adaptation_field_control" packet) (omega arith))))

  pub payload_there : {at : ℕ} → Payload packet at → with_payload (packet_of packet) ≡ true
  payload_there {at} p = both_left (with_payload (packet_of packet)) (eqb (payload_at (packet_of packet)) at) (payload_only p)

  pub payload_place : {at : ℕ} → Payload packet at → payload_at (packet_of packet) ≡ at
  payload_place {at} p =
      eqb-true (payload_at (packet_of packet)) at (both_right (with_payload (packet_of packet)) (eqb (payload_at (packet_of packet)) at) (payload_only p))

  -- the discontinuity indicator, and a PCR
  flag_meant : (least flag : ℕ) → reaches least packet && eqb flag 1 ≡ true → FlagSet packet least flag
  flag_meant least flag e =
      let there : Bool = with_adaptation (in_header "adaptation_field_control" packet) in
      let near : Bool = leb (5 + length_of packet) 188 in
      let enough : Bool = leb least (length_of packet) in
      let all : reaches least packet ≡ true = both_left (reaches least packet) (eqb flag 1) e in
      let first : there && near ≡ true = both_left (there && near) enough all in
      record {
        long = length_of packet;
        field = adaptation_meant (both_left there near first);
        within = leb-true (5 + length_of packet) 188 (both_right there near first);
        enough = leb-true least (length_of packet) (both_right (there && near) enough all);
        set = eqb-true flag 1 (both_right (reaches least packet) (eqb flag 1) e);
      }

  flag_only : (least flag : ℕ) → FlagSet packet least flag → reaches least packet && eqb flag 1 ≡ true
  flag_only least flag f =
      let long : length_of packet ≡ f.long = field_long f.field in
      ap₂ ◌&&◌
      (ap₂ ◌&&◌
      (ap₂ ◌&&◌ (field_there f.field) (le-leb (5 + length_of packet) 188 (omega (arith, f.within))))
      (le-leb least (length_of packet) (omega (arith, f.enough))))
      (eq-eqb flag 1 f.set)

  pub discontinuity_meant : (packet_of packet).adaptation.discontinuity_indicator ≡ true → Discontinuity packet
  discontinuity_meant e = flag_meant (bytes adaptation_flags) (line "discontinuity_indicator" adaptation_flags flags_at packet) e

  pub discontinuity_only : Discontinuity packet → (packet_of packet).adaptation.discontinuity_indicator ≡ true
  discontinuity_only f = flag_only (bytes adaptation_flags) (line "discontinuity_indicator" adaptation_flags flags_at packet) f

  pub pcr_meant : (packet_of packet).adaptation.has_pcr ≡ true → HasPcr packet
  pcr_meant e = flag_meant (bytes adaptation_flags + bytes pcr) (line "PCR_flag" adaptation_flags flags_at packet) e

  pub pcr_only : HasPcr packet → (packet_of packet).adaptation.has_pcr ≡ true
  pcr_only f = flag_only (bytes adaptation_flags + bytes pcr) (line "PCR_flag" adaptation_flags flags_at packet) f

  -- 33
  pub scrambled_meant : is_scrambled (packet_of packet) ≡ true → Scrambled packet
  scrambled_meant e =
      let clear : Bool = eqb (in_header "transport_scrambling_control" packet) 0b00 in
      record {
        at = payload_at (packet_of packet);
        payload = payload_meant (both_left (with_payload (packet_of packet)) (not clear) e);
        bits = eqb-false (in_header "transport_scrambling_control" packet) 0b00 (not-true clear (both_right (with_payload (packet_of packet)) (not clear) e));
      }

  pub scrambled_only : Scrambled packet → is_scrambled (packet_of packet) ≡ true
  scrambled_only s = ap₂ ◌&&◌ (payload_there s.payload) (ap not (ne_eqb (in_header "transport_scrambling_control" packet) 0b00 s.bits))

-- a PES header within a payload, by length alone
pub within_meant : (payload : List ℕ) → header_within payload ≡ true → HeaderWithin payload
within_meant payload e =
    let long : ℕ = 9 + named "PES_header_data_length" head (number 9 payload) in
    record {
      nine = leb-true 9 (length payload) (both_left (leb 9 (length payload)) (leb long (length payload)) e);
      its_data = leb-true long (length payload) (both_right (leb 9 (length payload)) (leb long (length payload)) e);
    }

pub within_only : (payload : List ℕ) → HeaderWithin payload → header_within payload ≡ true
within_only payload h =
    ap₂ ◌&&◌ (le-leb 9 (length payload) h.nine) (le-leb (9 + named "PES_header_data_length" head (number 9 payload)) (length payload) h.its_data)

module _ (packet : List ℕ) where
  -- 32, its two halves
  adaptation_outside_meant : adaptation_outside (packet_of packet) ≡ true → Outside packet
  adaptation_outside_meant e =
      let there : with_adaptation (in_header "adaptation_field_control" packet) ≡ true =
      both_left (with_adaptation (in_header "adaptation_field_control" packet)) (ltb 188 (5 + (packet_of packet).adaptation.adaptation_field_length)) e in
      let far : 188 < 5 + (packet_of packet).adaptation.adaptation_field_length =
      ltb-true 188 (5 + (packet_of packet).adaptation.adaptation_field_length)
      (both_right (with_adaptation (in_header "adaptation_field_control" packet)) (ltb 188 (5 + (packet_of packet).adaptation.adaptation_field_length)) e) in
      adaptation_field (adaptation_meant packet there) (rw there at far)

  header_outside_meant : header_outside (packet_of packet) packet ≡ true → Outside packet
  header_outside_meant e =
      let p = packet_of packet in
      let starts : Bool = p.payload_unit_start_indicator in
      let clear : Bool = eqb p.transport_scrambling_control 0b00 in
      let within : Bool = header_within (drop (payload_at p) packet) in
      let all : starts_clear p ≡ true = both_left (starts_clear p) (not within) e in
      let first : with_payload p && starts ≡ true = both_left (with_payload p && starts) clear all in
      pes_header (payload_meant packet (both_left (with_payload p) starts first))
      (eqb-true (in_header "payload_unit_start_indicator" packet) 1 (both_right (with_payload p) starts first))
      (eqb-true (in_header "transport_scrambling_control" packet) 0b00 (both_right (with_payload p && starts) clear all))
      (λ h. both_ways (within_only (drop (payload_at p) packet) h) (not-true within (both_right (starts_clear p) (not within) e)))

  pub outside_meant : is_outside (packet_of packet) packet ≡ true → Outside packet
  outside_meant e =
      ⊎_elim adaptation_outside_meant header_outside_meant
      (either_which (adaptation_outside (packet_of packet)) (header_outside (packet_of packet) packet) e)

  pub outside_only : Outside packet → is_outside (packet_of packet) packet ≡ true
  outside_only (adaptation_field {long} f far) =
      let there : with_adaptation (in_header "adaptation_field_control" packet) ≡ true = field_there packet f in
      let size : length_of packet ≡ long = field_long packet f in
      either_left (adaptation_outside (packet_of packet)) (header_outside (packet_of packet) packet)
      (rw (there, size) (lt-ltb 188 (5 + long) far))
  outside_only (pes_header {at} p starts clear not-Within) =
      either_right (adaptation_outside (packet_of packet)) (header_outside (packet_of packet) packet)
      (ap₂ ◌&&◌
      (ap₂ ◌&&◌
      (ap₂ ◌&&◌ (payload_there packet p) (eq-eqb (in_header "payload_unit_start_indicator" packet) 1 starts))
      (eq-eqb (in_header "transport_scrambling_control" packet) 0b00 clear))
      (ap not
      (ap (λ (n : ℕ). header_within (drop n packet)) (payload_place packet p)
      ∙ false_unless (header_within (drop at packet)) (λ e. not-Within (within_meant (drop at packet) e)))))
