-- A copy: the same byte at every place that counts, both ways.
-- Assumes nothing.
use Prim.Native.Nat.{ℕ, ◌+◌, ◌-◌, ◌≤◌, ◌<◌}
use mathlib.Core.Path.{◌≡◌, refl, sym, ap, ap₂, ◌∙◌}
use mathlib.Core.Bool.{Bool, true, false, ◌&&◌}
use mathlib.Core.List.{List}
use native.Mathlib.Decide.{dec_lt}
use native.Mathlib.Omega.{arith}
use lib.ListN.{length, get_or, take, drop, length-drop}
use lib.Seq.{length-take-le, get_or-take, get_or-drop}
use Rattle.combinators.specs.Bools.{both_left, both_right, both_ways}
use Rattle.packets.specs.Reading.{packet_bytes, packet_of}
use Rattle.packets.proofs.Meant.{pcr_meant, pcr_only}
use Rattle.continuity.specs.Following.{same_bytes, repeats}
use Rattle.continuity.specs.Meaning.{OfPcr}
use Rattle.continuity.proofs.Comparing.{same_at, at_same}

module _ (before packet : List ℕ) (whole : length packet ≡ packet_bytes) (there : length before ≡ packet_bytes) where
  abbrev pcrs : Bool
  pcrs = (packet_of packet).adaptation.has_pcr && (packet_of before).adaptation.has_pcr

  abbrev Others : Type 0
  Others = (i : ℕ) → i < packet_bytes → (OfPcr before packet i → ⊥) → get_or packet i 0 ≡ get_or before i 0

  -- the two parts around the PCR, place by place
  part_length : length (take 6 packet) ≡ 6
  part_length = length-take-le 6 packet (omega arith)

  front_same : same_bytes (take 6 packet) (take 6 before) ≡ true → (i : ℕ) → i < 6 → get_or packet i 0 ≡ get_or before i 0
  front_same e i h =
      sym (get_or-take 6 packet i 0 h) ∙ same_at (take 6 packet) (take 6 before) e i (omega (arith, part_length)) ∙ get_or-take 6 before i 0 h

  back_same : same_bytes (drop 12 packet) (drop 12 before) ≡ true → (i : ℕ) → 12 ≤ i → i < packet_bytes → get_or packet i 0 ≡ get_or before i 0
  back_same e i l h =
      let place : 12 + (i - 12) ≡ i = omega arith in
      ap (λ (n : ℕ). get_or packet n 0) (sym place)
      ∙ sym (get_or-drop 12 packet (i - 12) 0)
      ∙ same_at (drop 12 packet) (drop 12 before) e (i - 12) (omega (arith, length-drop 12 packet))
      ∙ get_or-drop 12 before (i - 12) 0
      ∙ ap (λ (n : ℕ). get_or before n 0) place

  pub repeats_meant : repeats pcrs packet before ≡ true → Others
  repeats_meant e = by_pcrs pcrs refl e
    where
      by_pcrs : (t : Bool) → pcrs ≡ t → repeats t packet before ≡ true → Others
      by_pcrs false p e i h f = same_at packet before e i (omega arith)
      by_pcrs true p e i h f = by_place (dec_lt i 6) (dec_lt i 12)
        where
          by_place : Dec (i < 6) → Dec (i < 12) → get_or packet i 0 ≡ get_or before i 0
          by_place (yes l) d = front_same (both_left (same_bytes (take 6 packet) (take 6 before)) (same_bytes (drop 12 packet) (drop 12 before)) e) i l
          by_place (no m) (no l) =
              back_same (both_right (same_bytes (take 6 packet) (take 6 before)) (same_bytes (drop 12 packet) (drop 12 before)) e) i (omega arith) h
          by_place (no m) (yes l) =
              absurd
              (f (record {
                here = pcr_meant packet (both_left (packet_of packet).adaptation.has_pcr (packet_of before).adaptation.has_pcr p);
                there = pcr_meant before (both_right (packet_of packet).adaptation.has_pcr (packet_of before).adaptation.has_pcr p);
                from = omega arith;
                until = omega arith;
              }))

  -- places outside the PCR, and all places where not both have one
  outside_pcr : Others → (i : ℕ) → i < packet_bytes → (6 ≤ i → i < 12 → ⊥) → get_or packet i 0 ≡ get_or before i 0
  outside_pcr f i h o = f i h (λ (p : OfPcr before packet i). o p.from p.until)

  pub repeats_only : Others → repeats pcrs packet before ≡ true
  repeats_only f = by_pcrs pcrs refl
    where
      front : same_bytes (take 6 packet) (take 6 before) ≡ true
      front =
          at_same (take 6 packet) (take 6 before)
          (λ i h.
          let l : i < 6 = omega (arith, part_length) in
          get_or-take 6 packet i 0 l ∙ outside_pcr f i (omega arith) (λ m n. absurd (omega arith)) ∙ sym (get_or-take 6 before i 0 l))

      back : same_bytes (drop 12 packet) (drop 12 before) ≡ true
      back =
          at_same (drop 12 packet) (drop 12 before)
          (λ i h.
          let long = length-drop 12 packet in
          get_or-drop 12 packet i 0 ∙ outside_pcr f (12 + i) (omega arith) (λ m n. absurd (omega arith)) ∙ sym (get_or-drop 12 before i 0))

      by_pcrs : (t : Bool) → pcrs ≡ t → repeats t packet before ≡ true
      by_pcrs true p = ap₂ ◌&&◌ front back
      by_pcrs false p =
          at_same packet before
          (λ i h. f i (omega arith)
          (λ (o : OfPcr before packet i). both_ways (ap₂ ◌&&◌ (pcr_only packet o.here) (pcr_only before o.there)) p))
