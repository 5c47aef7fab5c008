-- The answer of writing a loop and the buffer's content, from what the tests on the way say.
-- Assumes nothing.
use Rattle.std.specs.Prelude.{Err, Ok}
use Prim.Native.Nat.{ℕ, ◌≤◌, ◌<◌}
use mathlib.Core.Path.{◌≡◌, refl, sym, ◌∙◌, ap, subst}
use mathlib.Core.Bool.{Bool, true, false, cond}
use mathlib.Core.List.{List, ◌++◌}
use native.Mathlib.Omega.{arith}
use borrow.Author.Tests.{lt-ltb, le-ltb, ltb-true, ltb-false}
use lib.Dec.{ltb}
use lib.ListN.{length, take, drop}
use Rattle.combinators.specs.Bools.{either_way, or_else}
use Rattle.combinators.specs.Lists.{any}
use Rattle.combinators.specs.Lowest.{earliest_place}
use Rattle.combinators.proofs.Lowest.{lowest_number_lem, earliest_place_lem}
use Rattle.buffers.specs.Buffers.{Laid}
use Rattle.buffers.proofs.Laws.{laid_over_lem}
use Rattle.vocabulary.specs.declared.refusal.Refusal.{Refusal}
use Rattle.vocabulary.specs.declared.refusal.Refusal.TheVariants.{LoopTooLong, NoRoom, TooWide}
use Rattle.loop_entries.specs.declared.Entry.{Entry}
use Rattle.loop_faults.specs.Conditions.{refusal_of}
use Rattle.loop_writer.specs.Layout.{loop_bytes, too_wide}
use Rattle.loop_writer.specs.Verdict.{applies_to}
use Rattle.loop_writer.specs.Answer.{Written}
use Rattle.loop_writer.specs.declared.weighing.Weighed.{Weighed}
use Rattle.loop_writer.specs.Writing.{in_room, answer, content_after, content}
use Rattle.loop_writer.specs.Weighing.{Weighs, decided_by}

module _ (count : ℕ) (array : List Entry) (old : List ℕ) where
  abbrev given : List Entry
  given = take count array

  -- what a call promises of its answer and of the buffer
  abbrev pub Promised : Written → List ℕ → Type 0
  Promised w new = (w ≡ answer (length old) count array) × (new ≡ content count array old)

  refused : (r : Refusal) → answer (length old) count array ≡ Err r → Promised (Err r) old
  refused r e = (sym e, sym (ap (λ (w : Written). content_after w (loop_bytes given) old) e))

  pub some_wide : any too_wide given ≡ true → Promised (Err TooWide) old
  some_wide e = refused TooWide (rw e)

  module _ (none_wide : any too_wide given ≡ false) where
    pub too_many : 201 < count → Promised (Err LoopTooLong) old
    too_many h = refused LoopTooLong (rw (none_wide, lt-ltb 201 count h))

    -- by what the entries come to
    module _ (few : count ≤ 201) (weighed : Weighed) (weighs : Weighs given weighed) where
      abbrev number : ℕ
      number = weighed.fault.number

      abbrev place : ℕ
      place = weighed.fault.place

      -- the answer at a number, and so at the lowest
      abbrev answerAt : ℕ → Written
      answerAt n = cond (ltb n 10) (Err (refusal_of n (earliest_place (applies_to given) n (length given)))) (in_room (length old) (length (loop_bytes given)))

      at_number : cond (ltb number 10) (Err (refusal_of number place)) (in_room (length old) (length (loop_bytes given))) ≡ answerAt number
      at_number = go (ltb number 10) refl
        where
          go : (b : Bool) → ltb number 10 ≡ b
              → cond (ltb number 10) (Err (refusal_of number place)) (in_room (length old) (length (loop_bytes given))) ≡ answerAt number
          go true p =
              ap (λ (n : ℕ). cond (ltb number 10) (Err (refusal_of number n)) (in_room (length old) (length (loop_bytes given))))
              (earliest_place_lem (applies_to given) 10 (length given) number place weighs.lowest (ltb-true number 10 p))
          go false p = rw p

      decided : decided_by weighed (length old) ≡ answer (length old) count array
      decided =
          ap (λ (n : ℕ). cond (ltb 1008 n) (Err LoopTooLong) (cond (ltb number 10) (Err (refusal_of number place)) (in_room (length old) n))) weighs.size
          ∙ ap (cond (ltb 1008 (length (loop_bytes given))) (Err LoopTooLong))
          (at_number ∙ ap answerAt (lowest_number_lem (applies_to given) 10 (length given) number place weighs.lowest))
          ∙ sym (rw (none_wide, le-ltb 201 count few))

      pub decided-refused : (r : Refusal) → decided_by weighed (length old) ≡ Err r → Promised (Err r) old
      decided-refused r e = refused r (sym decided ∙ e)

      -- bytes are written where there is room for all of them
      abbrev Written-in : Written → Type 0
      Written-in (Ok n) = (n ≡ weighed.size) × (weighed.size ≤ length old)
      Written-in (Err r) = Unit {0}

      in_room_lem : Written-in (decided_by weighed (length old))
      in_room_lem =
          either_way Written-in (ltb 1008 weighed.size) (Err LoopTooLong) _ tt
          (either_way Written-in (ltb number 10) (Err (refusal_of number place)) _ tt
          (or_else Written-in (ltb (length old) weighed.size) (Err NoRoom) (Ok weighed.size) tt (λ p. (refl, ltb-false (length old) weighed.size p))))

      pub decided-written : (n : ℕ) → decided_by weighed (length old) ≡ Ok n → (next : ℕ) (new : List ℕ) → Laid old 0 (loop_bytes given) next new
          → Promised (Ok n) new
      decided-written n e next new laid =
          let whole : Written-in (Ok n) = subst Written-in e in_room_lem in
          let size : n ≡ length (loop_bytes given) = whole.0 ∙ weighs.size in
          let is_answer : answer (length old) count array ≡ Ok n = sym decided ∙ e in (
            sym is_answer,
            laid_over_lem laid (omega arith)
                ∙ ap (λ (m : ℕ). loop_bytes given ++ drop m old) (sym size)
                ∙ sym (ap (λ (w : Written). content_after w (loop_bytes given) old) is_answer),
          )
