-- The answer and the buffer's content, from what the tests on the way say.
-- Assumes nothing.
use Rattle.std.specs.Prelude.{Err, Ok}
use Prim.Native.Nat.{ℕ, ◌+◌, ◌≤◌, ◌<◌}
use mathlib.Core.Path.{◌≡◌, refl, sym, ◌∙◌, ap}
use mathlib.Core.Bool.{Bool, true, false, cond}
use mathlib.Core.List.{List, ◌++◌}
use native.Mathlib.Omega.{arith}
use borrow.Author.Tests.{lt-ltb, le-ltb, ltb-true}
use lib.Dec.{ltb}
use lib.ListN.{length, drop}
use Rattle.combinators.specs.Lowest.{earliest_place}
use Rattle.combinators.proofs.Lowest.{lowest_number_lem, earliest_place_lem}
use Rattle.buffers.specs.Buffers.{Laid}
use Rattle.buffers.proofs.Laws.{laid_over_lem}
use Rattle.vocabulary.specs.declared.refusal.Refusal.{Refusal}
use Rattle.vocabulary.specs.declared.refusal.Refusal.TheVariants.{LoopTooLong, NoRoom}
use Rattle.loop_entries.specs.declared.Entry.{Entry}
use Rattle.es_loop.specs.Answer.{Outcome}
use Rattle.loop_faults.specs.Conditions.{refusal_of}
use Rattle.loop_writer.specs.declared.weighing.Weighed.{Weighed}
use Rattle.loop_writer.specs.Answer.{Written}
use Rattle.loop_writer.specs.Layout.{loop_bytes}
use Rattle.loop_writer.specs.Verdict.{applies_to}
use Rattle.loop_writer.specs.Weighing.{Weighs, decided_by}
use Rattle.loop_writer.specs.Writing.{in_room, judged_in, content_after}
use Rattle.mvc_extension.specs.declared.MvcExtension.{MvcExtension}
use Rattle.stereo_writer.specs.Layout.{stereo_bytes}
use Rattle.stereo_writer.specs.Writing.{set_for, after_set, set_answer, set_content, after_loop, stereo_answer, stereo_content}

module _ (x y : MvcExtension) (entries : List Entry) (old : List ℕ) where
  abbrev pub OfSet : Written → List ℕ → Type 0
  OfSet w new = (w ≡ set_answer (length old) x y entries) × (new ≡ set_content x y entries old)

  by_outcome_lem : (o : Outcome) → (set_for x y entries).outcome ≡ o → set_answer (length old) x y entries ≡ after_set o (in_room (length old) (length (stereo_bytes x y entries)))
  by_outcome_lem o e = ap (λ (p : Outcome). after_set p (in_room (length old) (length (stereo_bytes x y entries)))) e

  untouched : (r : Refusal) → set_answer (length old) x y entries ≡ Err r → OfSet (Err r) old
  untouched r e = (sym e, sym (ap (λ (w : Written). content_after w (stereo_bytes x y entries) old) e))

  pub set_refused : (r : Refusal) → (set_for x y entries).outcome ≡ Err r → OfSet (Err r) old
  set_refused r e = untouched r (by_outcome_lem (Err r) e)

  module _ (is_set : (set_for x y entries).outcome ≡ Ok tt) (size : ℕ) (as_long : size ≡ length (stereo_bytes x y entries)) where
    pub no_room : length old < size → OfSet (Err NoRoom) old
    no_room h = untouched NoRoom (by_outcome_lem (Ok tt) is_set ∙ rw (lt-ltb (length old) (length (stereo_bytes x y entries)) (omega arith)))

    pub all_written : size ≤ length old → {next : ℕ} {new : List ℕ} → Laid old 0 (stereo_bytes x y entries) next new → OfSet (Ok size) new
    all_written h laid =
        let answer : set_answer (length old) x y entries ≡ Ok size =
        by_outcome_lem (Ok tt) is_set ∙ rw (le-ltb (length old) (length (stereo_bytes x y entries)) (omega arith)) (ap (λ (n : ℕ). Ok n) (sym as_long)) in (
          sym answer,
          laid_over_lem laid (omega arith)
              ∙ ap (λ (n : ℕ). stereo_bytes x y entries ++ drop n old) (sym as_long)
              ∙ sym (ap (λ (w : Written). content_after w (stereo_bytes x y entries) old) answer),
        )

  -- THE WHOLE.
  abbrev pub OfAll : Written → List ℕ → Type 0
  OfAll w new = (w ≡ stereo_answer (length old) x y entries) × (new ≡ stereo_content x y entries old)

  not_written : (r : Refusal) → stereo_answer (length old) x y entries ≡ Err r → OfAll (Err r) old
  not_written r e = (sym e, sym (ap (λ (w : Written). content_after w (stereo_bytes x y entries) old) e))

  pub too_many : 201 < length entries → OfAll (Err LoopTooLong) old
  too_many h = not_written LoopTooLong (rw (lt-ltb 201 (length entries) h))

  module _ (few : length entries ≤ 201) where
    pub too_long_lem : 1008 < length (loop_bytes entries) + 20 → OfAll (Err LoopTooLong) old
    too_long_lem h = not_written LoopTooLong (rw (le-ltb 201 (length entries) few, lt-ltb 1008 (length (loop_bytes entries) + 20) h))

    module _ (short : length (loop_bytes entries) + 20 ≤ 1008) (weighed : Weighed) (weighs : Weighs entries weighed) where
      abbrev number : ℕ
      number = weighed.fault.number

      abbrev place : ℕ
      place = weighed.fault.place

      abbrev judged_at : ℕ → Written
      judged_at n = cond (ltb n 10) (Err (refusal_of n (earliest_place (applies_to entries) n (length entries)))) (in_room 1008 (length (loop_bytes entries)))

      -- the loop writer's numbers, as they were weighed
      decided : decided_by weighed 1008 ≡ judged_in 1008 entries
      decided =
          let small : weighed.size ≤ 1008 = (let e = weighs.size in omega arith) in
          ap (λ (b : Bool). cond b (Err LoopTooLong) (cond (ltb number 10) (Err (refusal_of number place)) (in_room 1008 weighed.size))) (le-ltb 1008 weighed.size small)
          ∙ ap (λ (n : ℕ). cond (ltb number 10) (Err (refusal_of number place)) (in_room 1008 n)) weighs.size
          ∙ at_number (ltb number 10) refl
          ∙ ap judged_at (lowest_number_lem (applies_to entries) 10 (length entries) number place weighs.lowest)
        where
          at_number : (b : Bool) → ltb number 10 ≡ b
              → cond (ltb number 10) (Err (refusal_of number place)) (in_room 1008 (length (loop_bytes entries))) ≡ judged_at number
          at_number true p =
              ap (λ (n : ℕ). cond (ltb number 10) (Err (refusal_of number n)) (in_room 1008 (length (loop_bytes entries))))
              (earliest_place_lem (applies_to entries) 10 (length entries) number place weighs.lowest (ltb-true number 10 p))
          at_number false p = rw p

      whole : stereo_answer (length old) x y entries ≡ after_loop (decided_by weighed 1008) (set_answer (length old) x y entries)
      whole =
          rw (le-ltb 201 (length entries) few, le-ltb 1008 (length (loop_bytes entries) + 20) short)
          (ap (λ (w : Written). after_loop w (set_answer (length old) x y entries)) (sym decided))

      pub loop_refuses : (r : Refusal) → decided_by weighed 1008 ≡ Err r → OfAll (Err r) old
      loop_refuses r e = not_written r (whole ∙ ap (λ (w : Written). after_loop w (set_answer (length old) x y entries)) e)

      pub as_the_set : (n : ℕ) → decided_by weighed 1008 ≡ Ok n → {w : Written} {new : List ℕ} → OfSet w new → OfAll w new
      as_the_set n e (is_answer, is-content) =
          let same : stereo_answer (length old) x y entries ≡ set_answer (length old) x y entries =
          whole ∙ ap (λ (w : Written). after_loop w (set_answer (length old) x y entries)) e in (
            is_answer ∙ sym same,
            is-content ∙ sym (ap (λ (w : Written). content_after w (stereo_bytes x y entries) old) same),
          )
