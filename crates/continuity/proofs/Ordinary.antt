-- An ordinary packet after another on its PID continues: none of the other steps applies, by the bytes that were looked at.
-- Assumes nothing.
use Prim.Native.Nat.{ℕ, ◌+◌, ◌*◌, ◌/◌, ◌%◌, ◌<◌}
use mathlib.Core.Path.{◌≡◌, sym, ap, ap₂, ◌∙◌}
use mathlib.Core.Bool.{Bool, true, false, cond, not, ◌&&◌, ◌||◌}
use mathlib.Core.List.{List}
use native.Mathlib.Omega.{arith}
use borrow.Author.Tests.{ltb-true, eqb-true, eq-eqb, ne_eqb}
use lib.Dec.{eqb, leb, ltb}
use lib.ListN.{length, get_or}
use Rattle.combinators.specs.Bools.{both_left, both_right}
use Rattle.syntax.specs.Table.{AreBytes}
use Rattle.packets.specs.declared.Packet.{Packet}
use Rattle.packets.specs.Reading.{packet_bytes, adaptation_of}
use Rattle.packets.specs.Judging.{is_skipped, with_payload, starts_clear, header_within, payload_at, is_outside, is_scrambled}
use Rattle.packets.proofs.FieldLaws.{packet_by, packet_of_bytes}
use Rattle.continuity.specs.Following.{repeats, is_copy, is_gap, step_of, ordinary_fourth, ordinary_after}
use Rattle.continuity.specs.declared.Step.TheVariants.{Continues}
use Rattle.continuity.proofs.Steps.{alone_by_lem, step_by_lem}

module _ (before packet : List ℕ) (bytes-before : AreBytes before) (bytes : AreBytes packet) (there : length before ≡ packet_bytes)
    (ordinary : ordinary_after (get_or packet 1 0) (get_or packet 3 0) (get_or before 3 0) ≡ true) where
  -- the fields, by the bytes
  abbrev p : Packet
  p = packet_by (get_or packet 0 0) (get_or packet 1 0) (get_or packet 1 0 % 32 * 256 + get_or packet 2 0) (get_or packet 3 0) (adaptation_of packet)

  abbrev q : Packet
  q = packet_by (get_or before 0 0) (get_or before 1 0) (get_or before 1 0 % 32 * 256 + get_or before 2 0) (get_or before 3 0) (adaptation_of before)

  low : get_or packet 1 0 < 64
  low = ltb-true (get_or packet 1 0) 64 (both_left (ltb (get_or packet 1 0) 64) (eqb (get_or packet 3 0) (ordinary_fourth (get_or before 3 0))) ordinary)

  next : get_or packet 3 0 ≡ ordinary_fourth (get_or before 3 0)
  next = eqb-true (get_or packet 3 0) (ordinary_fourth (get_or before 3 0))
      (both_right (ltb (get_or packet 1 0) 64) (eqb (get_or packet 3 0) (ordinary_fourth (get_or before 3 0))) ordinary)

  -- what the two bytes say
  control : get_or packet 3 0 / 16 % 4 ≡ 1
  control = let high : get_or packet 3 0 / 16 ≡ 1 = omega (arith, next) in ap (λ (n : ℕ). n % 4) high

  counter : get_or packet 3 0 % 16 ≡ (get_or before 3 0 % 16 + 1) % 16
  counter = omega (arith, next)

  no_error : eqb (get_or packet 1 0 / 128) 1 ≡ false
  no_error = ne_eqb (get_or packet 1 0 / 128) 1 (λ e. omega (arith, low, e))

  no_start : eqb (get_or packet 1 0 / 64 % 2) 1 ≡ false
  no_start = ne_eqb (get_or packet 1 0 / 64 % 2) 1 (λ e. omega (arith, low, e))

  clear : eqb (get_or packet 3 0 / 64) 0 ≡ true
  clear = eq-eqb (get_or packet 3 0 / 64) 0 (omega (arith, next))

  payload : with_payload p ≡ true
  payload = ap (λ (n : ℕ). eqb (n % 2) 1) control

  not_skipped : is_skipped p ≡ false
  not_skipped = ap₂ ◌||◌ no_error (ap (λ (n : ℕ). eqb n 0) control)

  no_copy : is_copy p packet q before ≡ false
  no_copy =
      ap₂ (λ (t s : Bool). t && s && repeats (p.adaptation.has_pcr && q.adaptation.has_pcr) packet before) payload
      (ne_eqb (get_or packet 3 0 % 16) (get_or before 3 0 % 16) (λ e. omega (arith, counter, e)))

  no_gap : is_gap p q ≡ false
  no_gap =
      ap (λ (t : Bool). not (eqb (get_or packet 3 0 % 16) (cond t ((get_or before 3 0 % 16 + 1) % 16) (get_or before 3 0 % 16))) && not p.adaptation.discontinuity_indicator) payload
      ∙ ap (λ (t : Bool). not t && not p.adaptation.discontinuity_indicator) (eq-eqb (get_or packet 3 0 % 16) ((get_or before 3 0 % 16 + 1) % 16) counter)

  no_unit : starts_clear p ≡ false
  no_unit = ap₂ (λ (t s : Bool). t && s && eqb (get_or packet 3 0 / 64) 0) payload no_start

  inside : is_outside p packet ≡ false
  inside =
      ap₂ (λ (n : ℕ) (t : Bool). (leb 2 n && ltb 188 (5 + p.adaptation.adaptation_field_length)) || (t && not (header_within (lib.ListN.drop (payload_at p) packet)))) control no_unit

  not_scrambled : is_scrambled p ≡ false
  not_scrambled = ap₂ (λ (t s : Bool). t && not s) payload clear

  pub ordinary_continues : step_of before packet ≡ Continues
  ordinary_continues =
      step_by_lem p q packet before (sym (packet_of_bytes packet bytes)) (sym (packet_of_bytes before bytes-before)) not_skipped
      (eq-eqb (length before) packet_bytes there) no_copy no_gap
      ∙ alone_by_lem p packet inside not_scrambled no_unit
