-- The laws that join the step to what it means, both ways.
-- Assumes nothing.
use Prim.Native.Nat.{ℕ, ◌+◌, ◌%◌}
use mathlib.Core.Path.{◌≡◌, refl, sym, ap, ap₂, ◌∙◌, subst}
use mathlib.Core.Bool.{Bool, true, false, cond, not, ◌&&◌}
use mathlib.Core.List.{List}
use borrow.Author.Tests.{eqb-true, eq-eqb, not-true, not-false}
use lib.Dec.{eqb}
use lib.ListN.{length}
use Rattle.combinators.specs.Bools.{both_left, both_right, both_ways, false_unless}
use Rattle.packets.specs.Reading.{packet_bytes, in_header, packet_of}
use Rattle.packets.specs.Judging.{is_skipped, with_payload, payload_at, starts_clear, is_outside, is_scrambled}
use Rattle.packets.specs.Meaning.{Skipped as IsSkipped, Outside, Scrambled}
use Rattle.packets.proofs.Meant.{skipped_meant, skipped_only, payload_meant, payload_there, payload_place, discontinuity_meant, discontinuity_only, outside_meant, outside_only, scrambled_meant, scrambled_only}
use Rattle.continuity.specs.Following.{repeats, is_copy, next_counter, is_gap, alone_of, after_of, is_there, step_of}
use Rattle.continuity.specs.Meaning.{There, IsCopy, Next, moves, stays, Gap, Judged, UnitStart, Steps, skipped, copy, gap, outside, scrambled, starts, continues}
use Rattle.continuity.specs.declared.Step.{Step}
use Rattle.continuity.specs.declared.Step.TheVariants.{Skipped, Copy, Faulty, Starts, Continues}
use Rattle.continuity.proofs.Copies.{repeats_meant, repeats_only}

module _ (before packet : List ℕ) (whole : length packet ≡ packet_bytes) where
  -- COPIES
  abbrev copy_test : Bool
  copy_test = is_there before && is_copy (packet_of packet) packet (packet_of before) before

  abbrev same_counter : Bool
  same_counter = eqb (in_header "continuity_counter" packet) (in_header "continuity_counter" before)

  abbrev repeat_test : Bool
  repeat_test = repeats ((packet_of packet).adaptation.has_pcr && (packet_of before).adaptation.has_pcr) packet before

  copy_meant : copy_test ≡ true → IsCopy before packet
  copy_meant e =
      let there : There before = eqb-true (length before) packet_bytes (both_left (is_there before) (is_copy (packet_of packet) packet (packet_of before) before) e) in
      let all : with_payload (packet_of packet) && same_counter && repeat_test ≡ true = both_right (is_there before) (is_copy (packet_of packet) packet (packet_of before) before) e in
      let first : with_payload (packet_of packet) && same_counter ≡ true = both_left (with_payload (packet_of packet) && same_counter) repeat_test all in
      record {
        there = there;
        at = payload_at (packet_of packet);
        payload = payload_meant packet (both_left (with_payload (packet_of packet)) same_counter first);
        counter = eqb-true (in_header "continuity_counter" packet) (in_header "continuity_counter" before) (both_right (with_payload (packet_of packet)) same_counter first);
        others = repeats_meant before packet whole there (both_right (with_payload (packet_of packet) && same_counter) repeat_test all);
      }

  copy_only : IsCopy before packet → copy_test ≡ true
  copy_only k =
      ap₂ ◌&&◌ (eq-eqb (length before) packet_bytes k.there)
      (ap₂ ◌&&◌
      (ap₂ ◌&&◌ (payload_there packet k.payload)
      (eq-eqb (in_header "continuity_counter" packet) (in_header "continuity_counter" before) k.counter))
      (repeats_only before packet whole k.there k.others))

  -- GAPS
  abbrev gap_test : Bool
  gap_test = is_there before && is_gap (packet_of packet) (packet_of before)

  abbrev next_test : Bool
  next_test = eqb (in_header "continuity_counter" packet) (next_counter (packet_of packet) (in_header "continuity_counter" before))

  next_is : Next before packet (next_counter (packet_of packet) (in_header "continuity_counter" before))
  next_is = by_payload (with_payload (packet_of packet)) refl
    where
      by_payload : (t : Bool) → with_payload (packet_of packet) ≡ t
          → Next before packet (cond t ((in_header "continuity_counter" before + 1) % 16) (in_header "continuity_counter" before))
      by_payload true e = moves (payload_meant packet e)
      by_payload false e = stays (λ at p. both_ways (payload_there packet p) e)

  next_only : {n : ℕ} → Next before packet n → n ≡ next_counter (packet_of packet) (in_header "continuity_counter" before)
  next_only (moves p) =
      ap (λ (t : Bool). cond t ((in_header "continuity_counter" before + 1) % 16) (in_header "continuity_counter" before)) (sym (payload_there packet p))
  next_only (stays f) =
      ap (λ (t : Bool). cond t ((in_header "continuity_counter" before + 1) % 16) (in_header "continuity_counter" before))
      (sym (false_unless (with_payload (packet_of packet)) (λ e. f (payload_at (packet_of packet)) (payload_meant packet e))))

  gap_meant : gap_test ≡ true → Gap before packet
  gap_meant e =
      let unsaid : Bool = not (packet_of packet).adaptation.discontinuity_indicator in
      let gaps : not next_test && unsaid ≡ true = both_right (is_there before) (is_gap (packet_of packet) (packet_of before)) e in
      record {
        there = eqb-true (length before) packet_bytes (both_left (is_there before) (is_gap (packet_of packet) (packet_of before)) e);
        other = λ n. both_ways
            (eq-eqb (in_header "continuity_counter" packet) (next_counter (packet_of packet) (in_header "continuity_counter" before)) (next_only n))
            (not-true next_test (both_left (not next_test) unsaid gaps));
        unsaid = λ d. both_ways (discontinuity_only packet d)
            (not-true (packet_of packet).adaptation.discontinuity_indicator (both_right (not next_test) unsaid gaps));
      }

  gap_only : Gap before packet → gap_test ≡ true
  gap_only g =
      ap₂ ◌&&◌ (eq-eqb (length before) packet_bytes g.there)
      (ap₂ ◌&&◌
      (ap not
      (false_unless next_test
      (λ e. g.other
      (subst (Next before packet)
      (sym (eqb-true (in_header "continuity_counter" packet) (next_counter (packet_of packet) (in_header "continuity_counter" before)) e)) next_is))))
      (ap not (false_unless (packet_of packet).adaptation.discontinuity_indicator (λ e. g.unsaid (discontinuity_meant packet e)))))

  -- THE STEP by its tests, the packet before it among them.
  abbrev step_by : Bool → Bool → Bool → Bool → Bool → Bool → ℕ → Step
  step_by skips copies gaps out hidden begins at =
      cond skips Skipped
      (cond copies Copy
      (cond gaps (Faulty 31)
      (cond out (Faulty 32)
      (cond hidden (Faulty 33)
      (cond begins (Starts at) Continues)))))

  -- where there is no packet before it, it is neither a copy nor after a gap
  step_tests : step_of before packet
      ≡ step_by (is_skipped (packet_of packet)) copy_test gap_test (is_outside (packet_of packet) packet) (is_scrambled (packet_of packet))
      (starts_clear (packet_of packet)) (payload_at (packet_of packet))
  step_tests = by_there (is_there before)
    where
      by_there : (t : Bool)
          → cond (is_skipped (packet_of packet)) Skipped
          (cond t (after_of (packet_of packet) packet (packet_of before) before) (alone_of (packet_of packet) packet))
          ≡ step_by (is_skipped (packet_of packet)) (t && is_copy (packet_of packet) packet (packet_of before) before) (t && is_gap (packet_of packet) (packet_of before))
          (is_outside (packet_of packet) packet) (is_scrambled (packet_of packet)) (starts_clear (packet_of packet)) (payload_at (packet_of packet))
      by_there true = refl
      by_there false = refl

  -- a unit start in a payload that is not scrambled
  start_meant : starts_clear (packet_of packet) ≡ true → UnitStart before packet (payload_at (packet_of packet))
  start_meant e =
      let first : with_payload (packet_of packet) && (packet_of packet).payload_unit_start_indicator ≡ true =
      both_left (with_payload (packet_of packet) && (packet_of packet).payload_unit_start_indicator) (eqb (in_header "transport_scrambling_control" packet) 0b00) e in
      record {
        payload = payload_meant packet (both_left (with_payload (packet_of packet)) (packet_of packet).payload_unit_start_indicator first);
        starts = eqb-true (in_header "payload_unit_start_indicator" packet) 1
            (both_right (with_payload (packet_of packet)) (packet_of packet).payload_unit_start_indicator first);
      }

  start_only : {at : ℕ} → (Scrambled packet → ⊥) → UnitStart before packet at → starts_clear (packet_of packet) ≡ true
  start_only clear u =
      ap₂ ◌&&◌
      (ap₂ ◌&&◌ (payload_there packet u.payload) (eq-eqb (in_header "payload_unit_start_indicator" packet) 1 u.starts))
      (not-false (eqb (in_header "transport_scrambling_control" packet) 0b00)
      (false_unless (not (eqb (in_header "transport_scrambling_control" packet) 0b00))
      (λ e. clear (scrambled_meant packet (ap₂ ◌&&◌ (payload_there packet u.payload) e)))))

  -- what is computed has the meaning
  pub step_meant : Steps before packet (step_of before packet)
  step_meant = subst (Steps before packet) (sym step_tests) (by_skip (is_skipped (packet_of packet)) refl)
    where
      by_start : Judged before packet → (Gap before packet → ⊥) → (Outside packet → ⊥) → (Scrambled packet → ⊥)
          → (t : Bool) → starts_clear (packet_of packet) ≡ t → Steps before packet (cond t (Starts (payload_at (packet_of packet))) Continues)
      by_start j g o s true e = starts j g o s (start_meant e)
      by_start j g o s false e = continues j g o s (λ at u. both_ways (start_only s u) e)

      by_scrambling : Judged before packet → (Gap before packet → ⊥) → (Outside packet → ⊥) → (t : Bool) → is_scrambled (packet_of packet) ≡ t
          → Steps before packet (cond t (Faulty 33) (cond (starts_clear (packet_of packet)) (Starts (payload_at (packet_of packet))) Continues))
      by_scrambling j g o true e = scrambled j g o (scrambled_meant packet e)
      by_scrambling j g o false e = by_start j g o (λ s. both_ways (scrambled_only packet s) e) (starts_clear (packet_of packet)) refl

      by_outside : Judged before packet → (Gap before packet → ⊥) → (t : Bool) → is_outside (packet_of packet) packet ≡ t
          → Steps before packet (step_by false false false t (is_scrambled (packet_of packet)) (starts_clear (packet_of packet)) (payload_at (packet_of packet)))
      by_outside j g true e = outside j g (outside_meant packet e)
      by_outside j g false e = by_scrambling j g (λ o. both_ways (outside_only packet o) e) (is_scrambled (packet_of packet)) refl

      by_gap : Judged before packet → (t : Bool) → gap_test ≡ t
          → Steps before packet (step_by false false t (is_outside (packet_of packet) packet) (is_scrambled (packet_of packet)) (starts_clear (packet_of packet)) (payload_at (packet_of packet)))
      by_gap j true e = gap j (gap_meant e)
      by_gap j false e = by_outside j (λ g. both_ways (gap_only g) e) (is_outside (packet_of packet) packet) refl

      by_copy : (IsSkipped packet → ⊥) → (t : Bool) → copy_test ≡ t
          → Steps before packet (step_by false t gap_test (is_outside (packet_of packet) packet) (is_scrambled (packet_of packet)) (starts_clear (packet_of packet)) (payload_at (packet_of packet)))
      by_copy r true e = copy r (copy_meant e)
      by_copy r false e = by_gap (record { read = r; first = λ k. both_ways (copy_only k) e }) gap_test refl

      by_skip : (t : Bool) → is_skipped (packet_of packet) ≡ t
          → Steps before packet (step_by t copy_test gap_test (is_outside (packet_of packet) packet) (is_scrambled (packet_of packet)) (starts_clear (packet_of packet)) (payload_at (packet_of packet)))
      by_skip true e = skipped (skipped_meant packet e)
      by_skip false e = by_copy (λ s. both_ways (skipped_only packet s) e) copy_test refl

  -- and nothing else has it
  by_tests : {s k g o h b : Bool} {step : Step} → is_skipped (packet_of packet) ≡ s → copy_test ≡ k → gap_test ≡ g → is_outside (packet_of packet) packet ≡ o
      → is_scrambled (packet_of packet) ≡ h → starts_clear (packet_of packet) ≡ b → step ≡ step_by s k g o h b (payload_at (packet_of packet))
      → step ≡ step_of before packet
  by_tests s k g o h b e = e ∙ sym (λ i. step_by (s i) (k i) (g i) (o i) (h i) (b i) (payload_at (packet_of packet))) ∙ sym step_tests

  unskipped : (IsSkipped packet → ⊥) → is_skipped (packet_of packet) ≡ false
  unskipped r = false_unless (is_skipped (packet_of packet)) (λ e. r (skipped_meant packet e))

  uncopied : (IsCopy before packet → ⊥) → copy_test ≡ false
  uncopied r = false_unless copy_test (λ e. r (copy_meant e))

  no_gap : (Gap before packet → ⊥) → gap_test ≡ false
  no_gap r = false_unless gap_test (λ e. r (gap_meant e))

  inside : (Outside packet → ⊥) → is_outside (packet_of packet) packet ≡ false
  inside r = false_unless (is_outside (packet_of packet) packet) (λ e. r (outside_meant packet e))

  clear : (Scrambled packet → ⊥) → is_scrambled (packet_of packet) ≡ false
  clear r = false_unless (is_scrambled (packet_of packet)) (λ e. r (scrambled_meant packet e))

  pub step_only : {step : Step} → Steps before packet step → step ≡ step_of before packet
  step_only (skipped s) = by_tests (skipped_only packet s) refl refl refl refl refl refl
  step_only (copy r k) = by_tests (unskipped r) (copy_only k) refl refl refl refl refl
  step_only (gap j g) = by_tests (unskipped j.read) (uncopied j.first) (gap_only g) refl refl refl refl
  step_only (outside j g o) = by_tests (unskipped j.read) (uncopied j.first) (no_gap g) (outside_only packet o) refl refl refl
  step_only (scrambled j g o s) = by_tests (unskipped j.read) (uncopied j.first) (no_gap g) (inside o) (scrambled_only packet s) refl refl
  step_only (starts j g o s u) =
      by_tests (unskipped j.read) (uncopied j.first) (no_gap g) (inside o) (clear s) (start_only s u) (ap Starts (sym (payload_place packet u.payload)))
  step_only (continues j g o s f) =
      by_tests (unskipped j.read) (uncopied j.first) (no_gap g) (inside o) (clear s)
      (false_unless (starts_clear (packet_of packet)) (λ e. f (payload_at (packet_of packet)) (start_meant e))) refl
