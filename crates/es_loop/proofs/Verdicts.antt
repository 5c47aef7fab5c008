-- The verdict on a loop from what is known of the lowest number and its place, and back.
-- Assumes nothing.
use Rattle.std.specs.Prelude.{Err, Ok}
use Rattle.es_loop.specs.Answer.{entries_judged, Outcome, Verdict}
use Prim.Native.Nat.{ℕ, ◌≤◌, ◌<◌}
use mathlib.Core.Path.{◌≡◌, refl, sym, ◌∙◌, ap, subst}
use mathlib.Core.Bool.{Bool, true, false, cond}
use mathlib.Core.List.{List}
use native.Mathlib.Omega.{arith}
use borrow.Author.Tests.{lt-ltb, ltb-false}
use lib.Dec.{ltb}
use lib.ListN.{length}
use Rattle.combinators.specs.Lowest.{Lowest, lowest_number, earliest_place}
use Rattle.combinators.proofs.Lowest.{lowest_number_lem, earliest_place_lem, lowest_is}
use Rattle.vocabulary.specs.declared.stream_types.Reading.{Reading}
use Rattle.vocabulary.specs.declared.refusal.Refusal.{Refusal}
use Rattle.vocabulary.specs.declared.refusal.Refusal.TheVariants.{LoopTooLong}
use Rattle.loop_entries.specs.declared.Stream.{Stream}
use Rattle.loop_entries.specs.Entries.{pair_of, streams_alone, streams_of}
use Rattle.es_loop.proofs.Pairs.{pair_marked}
use Rattle.loop_faults.specs.Conditions.{applies, refusal_of}
use Rattle.es_loop.specs.Reading.{verdict_at, judged, verdict_of, answer_by, loop_read, accepted as accepted_read}

module _ (streams : List Stream) where
  -- the verdict, given the lowest number and its place
  pub judged_refused : (number place : ℕ) → Lowest (applies streams) 10 (length streams) number place → number < 10
      → Err (refusal_of number place) ≡ judged streams
  judged_refused number place b h =
      sym (ap (λ (t : Bool). cond t (Err (refusal_of number place)) (entries_judged (length streams) (pair_of streams))) (lt-ltb number 10 h))
      ∙ ap (λ (p : ℕ). verdict_at (length streams) (pair_of streams) number p) (earliest_place_lem (applies streams) 10 (length streams) number place b h)
      ∙ ap (λ (n : ℕ). verdict_at (length streams) (pair_of streams) n (earliest_place (applies streams) n (length streams)))
      (lowest_number_lem (applies streams) 10 (length streams) number place b)

  pub judged_accepted : (place : ℕ) → Lowest (applies streams) 10 (length streams) 10 place → entries_judged (length streams) (pair_of streams) ≡ judged streams
  judged_accepted place b =
      ap (λ (n : ℕ). verdict_at (length streams) (pair_of streams) n (earliest_place (applies streams) n (length streams)))
      (lowest_number_lem (applies streams) 10 (length streams) 10 place b)

  -- a verdict of entries: no number applies at any of them, and they are all
  abbrev lowest : ℕ
  lowest = lowest_number (applies streams) 10 (length streams)

  abbrev Accepting : Verdict → Type 0
  Accepting (Err r) = Unit {0}
  Accepting (Ok judged) = (judged.count ≡ length streams) × (judged.pair ≡ pair_of streams) × ((n k : ℕ) → n < 10 → k < length streams → applies streams n k ≡ false)

  accepting : Accepting (judged streams)
  accepting = go (ltb lowest 10) refl
    where
      go : (b : Bool) → ltb lowest 10 ≡ b → Accepting (judged streams)
      go true p = rw p tt
      go false p =
          rw p
          (refl, refl, λ n k h l. (lowest_is (applies streams) 10 (length streams)).lower n k (omega (arith, ltb-false lowest 10 p)) l)

-- the same of a loop's bytes
module _ (reading : Reading) (bytes : List ℕ) where
  pub record Sound (count : ℕ) (pair : Bool) : Type 0 where
    pub short : length bytes ≤ 1008
    pub counted : count ≡ length (streams_of reading bytes)
    pub paired : pair ≡ pair_of (streams_alone reading bytes)
    pub none : (n k : ℕ) → n < 10 → k < length (streams_of reading bytes) → applies (streams_of reading bytes) n k ≡ false

  abbrev Holds : Verdict → Type 0
  Holds (Err r) = Unit {0}
  Holds (Ok judged) = Sound judged.count judged.pair

  abbrev IsEntries : Verdict → Type 0
  IsEntries (Err r) = ⊥
  IsEntries (Ok judged) = Unit {0}

  abbrev By : Bool → Verdict
  By b = cond b (Err LoopTooLong) (judged (streams_of reading bytes))

  accepted : (v : Verdict) → length bytes ≤ 1008 → Accepting (streams_of reading bytes) v → Holds v
  accepted (Err r) short a = tt
  accepted (Ok judged) short a =
      record { short = short; counted = a.0; paired = a.1 ∙ pair_marked (streams_alone reading bytes); none = a.2 }

  pub sound : (count : ℕ) (pair : Bool) → verdict_of reading bytes ≡ entries_judged count pair → Sound count pair
  sound count pair e = go (ltb 1008 (length bytes)) refl
    where
      go : (b : Bool) → ltb 1008 (length bytes) ≡ b → Sound count pair
      go true p = absurd (subst IsEntries (sym (sym (ap By p) ∙ e)) tt)
      go false p =
          subst Holds (sym (ap By p) ∙ e)
          (accepted (judged (streams_of reading bytes)) (ltb-false 1008 (length bytes) p) (accepting (streams_of reading bytes)))

  -- a loop that is accepted: every entry is answered, and no number applies at any
  pub record Taken : Type 0 where
    pub short : length bytes ≤ 1008
    pub is_read : loop_read reading bytes ≡ accepted_read (streams_of reading bytes)
    pub none : (n k : ℕ) → n < 10 → k < length (streams_of reading bytes) → applies (streams_of reading bytes) n k ≡ false

  pub taken : (loop_read reading bytes).outcome ≡ Ok tt → Taken
  taken is_accepted = go (verdict_of reading bytes) refl is_accepted
    where
      never : {r : Refusal} → ◌≡◌ {A = Outcome} (Err r) (Ok tt) → Taken
      never e = let z : ◌≡◌ {A = ℕ} 0 1 = cc in absurd (omega arith)

      go : (v : Verdict) → verdict_of reading bytes ≡ v → (answer_by (streams_of reading bytes) v).outcome ≡ Ok tt → Taken
      go (Err r) e o = never o
      go (Ok judged) e o =
          let s = sound judged.count judged.pair e in
          record { short = s.short; is_read = ap (answer_by (streams_of reading bytes)) e; none = s.none }
