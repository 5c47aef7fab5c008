-- The law that joins the meaning of writing a stereo set to what is computed, both ways.
-- Assumes nothing.
use Rattle.std.specs.Prelude.{Err, Ok}
use Prim.Native.Nat.{ℕ, ◌+◌, ◌≤◌, ◌<◌}
use mathlib.Core.Path.{◌≡◌, refl, sym, ◌∙◌, ap}
use mathlib.Core.Bool.{Bool, true, false, cond}
use mathlib.Core.List.{List, ◌++◌}
use native.Mathlib.Omega.{arith}
use borrow.Author.Tests.{le-ltb, lt-ltb, ltb-true, ltb-false}
use lib.Dec.{ltb}
use lib.ListN.{length, drop}
use Rattle.combinators.specs.Bools.{either_right, false_unless}
use Rattle.combinators.specs.Lists.{any}
use Rattle.syntax.specs.Table.{fits}
use Rattle.vocabulary.specs.declared.refusal.Refusal.{Refusal}
use Rattle.vocabulary.specs.declared.refusal.Refusal.TheVariants.{NotStereoSet, RangesMeet, NoRoom}
use Rattle.loop_entries.specs.declared.Entry.{Entry}
use Rattle.es_loop.specs.Answer.{Outcome}
use Rattle.loop_writer.specs.Answer.{Written}
use Rattle.loop_writer.specs.Layout.{loop_bytes, too_wide}
use Rattle.loop_writer.specs.Writing.{in_room, judged_in, content_after}
use Rattle.loop_writer.proofs.Writes.{bytes_meant, bytes_only}
use Rattle.mvc_extension.specs.declared.MvcExtension.{MvcExtension}
use Rattle.mvc_extension.specs.MvcExtension.{mvc_extension_descriptor, mvc_extension_fields}
use Rattle.mvc_extension.specs.Ranges.{wrong_ranges, WrongRanges}
use Rattle.mvc_extension.proofs.RangesMeant.{ranges_meant, ranges_only}
use Rattle.stereo_set.specs.declared.set.StereoRead.{StereoRead}
use Rattle.stereo_set.specs.Two.{TwoLayers}
use Rattle.stereo_writer.specs.Layout.{stereo_bytes}
use Rattle.stereo_writer.specs.Writing.{set_for, after_set, set_answer, after_loop, stereo_answer, stereo_content}
use Rattle.stereo_writer.specs.Meaning.{Sound, Answers, WritesSet, too_many, too_long_lem, refuses, not_the_two, wrong_ranges_lem, no_room, accepts}
use Rattle.stereo_writer.proofs.Bytes.{each_case, set_bytes_meant, set_bytes_only}
use Rattle.stereo_writer.proofs.Judging.{LoopCase, refused_there, sound_there, loop_case, refused_only, sound_only, judged_by_two, SetOutcome, forty_four, forty_six, a_set, set_outcome}

module _ (x y : MvcExtension) (fit_x : fits mvc_extension_descriptor (mvc_extension_fields x) ≡ true) (fit_y : fits mvc_extension_descriptor (mvc_extension_fields y) ≡ true)
    (entries : List Entry) (fine : any too_wide entries ≡ false) (old : List ℕ) where
  abbrev room : ℕ
  room = length old

  abbrev size : ℕ
  size = length (stereo_bytes x y entries)

  abbrev loop_size : ℕ
  loop_size = length (loop_bytes entries)

  abbrev Meets : Written → Type 0
  Meets w = Answers x y entries old w (content_after w (stereo_bytes x y entries) old)

  the_bytes : {base second : Entry} → TwoLayers entries base second → WritesSet x y entries (stereo_bytes x y entries)
  the_bytes two = set_bytes_meant x y fit_x fit_y entries fine (each_case two)

  -- THE ANSWER COMPUTED HAS THE MEANING.
  pub stereo_meant : Meets (stereo_answer room x y entries)
  stereo_meant = go (ltb 201 (length entries)) refl (ltb 1008 (loop_size + 20)) refl
    where
      in_room_lem : {base second : Entry} → Sound x y entries → TwoLayers entries base second → (WrongRanges x y → ⊥) → (b : Bool) → ltb room size ≡ b
          → Meets (cond b (Err NoRoom) (Ok size))
      in_room_lem s two right true p = no_room s two right (the_bytes two) (ltb-true room size p)
      in_room_lem s two right false p = accepts s two right (the_bytes two) (ltb-false room size p)

      by_set : Sound x y entries → {o : Outcome} → SetOutcome x y entries o → Meets (after_set o (in_room room size))
      by_set s (forty_four none) = not_the_two s none
      by_set s (forty_six two wrong) = wrong_ranges_lem s two wrong
      by_set s (a_set two right) = in_room_lem s two right (ltb room size) refl

      by_loop : (few : length entries ≤ 201) (short : loop_size + 20 ≤ 1008) {w : Written} → LoopCase x y entries fine few short w
          → Meets (after_loop w (set_answer room x y entries))
      by_loop few short (refused_there at-k lower earlier) = refuses few (bytes_meant entries fine) short at-k lower earlier
      by_loop few short (sound_there s) = by_set s (set_outcome x y entries s.none)

      go : (a : Bool) → ltb 201 (length entries) ≡ a → (b : Bool) → ltb 1008 (loop_size + 20) ≡ b → Meets (stereo_answer room x y entries)
      go true p b q = rw p (too_many (ltb-true 201 (length entries) p))
      go false p true q = rw (p, q) (too_long_lem (bytes_meant entries fine) (ltb-true 1008 (loop_size + 20) q))
      go false p false q =
          let few = ltb-false 201 (length entries) p in
          let short = ltb-false 1008 (loop_size + 20) q in
          rw (p, q) (by_loop few short (loop_case x y entries fine few short))

  -- AND NO OTHER ANSWER HAS IT, nor does another content of the buffer.
  abbrev Only : Written → List ℕ → Type 0
  Only w new = (w ≡ stereo_answer room x y entries) × (new ≡ stereo_content x y entries old)

  refused : {r : Refusal} → stereo_answer room x y entries ≡ Err r → Only (Err r) old
  refused e = (sym e, sym (ap (λ (w : Written). content_after w (stereo_bytes x y entries) old) e))

  loop_size_lem : {loop : List ℕ} → Rattle.loop_writer.specs.Meaning.WritesEntries entries loop → length loop ≡ loop_size
  loop_size_lem w = ap length (bytes_only w)

  after_loop_lem : (few : length entries ≤ 201) (short : loop_size + 20 ≤ 1008) → stereo_answer room x y entries ≡ after_loop (judged_in 1008 entries) (set_answer room x y entries)
  after_loop_lem few short = rw (le-ltb 201 (length entries) few, le-ltb 1008 (loop_size + 20) short)

  as_set : Sound x y entries → stereo_answer room x y entries ≡ set_answer room x y entries
  as_set s =
      let long = loop_size_lem s.written in
      let short : loop_size + 20 ≤ 1008 = (let h = s.short in omega arith) in
      after_loop_lem s.few short ∙ ap (λ (w : Written). after_loop w (set_answer room x y entries)) (sound_only x y entries fine s.few short s)

  by_outcome_lem : (o : Outcome) → (set_for x y entries).outcome ≡ o → set_answer room x y entries ≡ after_set o (in_room room size)
  by_outcome_lem o e = ap (λ (p : Outcome). after_set p (in_room room size)) e

  outcome_by : {base second : Entry} → TwoLayers entries base second → (b : Bool) → wrong_ranges x y ≡ b
      → (set_for x y entries).outcome ≡ cond b (Err RangesMeet) (Ok tt)
  outcome_by two true p = ap (λ (r : StereoRead). r.outcome) (judged_by_two x y entries two) ∙ rw p
  outcome_by two false p = ap (λ (r : StereoRead). r.outcome) (judged_by_two x y entries two) ∙ rw p

  right_ranges : (WrongRanges x y → ⊥) → wrong_ranges x y ≡ false
  right_ranges right = false_unless (wrong_ranges x y) (λ t. right (ranges_meant x y t))

  no_two : Sound x y entries → ((base second : Entry) → TwoLayers entries base second → ⊥) → (set_for x y entries).outcome ≡ Err NotStereoSet
  no_two s none = go (set_outcome x y entries s.none)
    where
      go : {o : Outcome} → SetOutcome x y entries o → o ≡ Err NotStereoSet
      go (forty_four f) = refl
      go (forty_six {base} {second} two wrong) = absurd (none base second two)
      go (a_set {base} {second} two right) = absurd (none base second two)

  pub stereo_only : {w : Written} {new : List ℕ} → Answers x y entries old w new → Only w new
  stereo_only (too_many h) = refused (rw (lt-ltb 201 (length entries) h))
  stereo_only (too_long_lem w h) =
      let long = loop_size_lem w in
      let large : 1008 < loop_size + 20 = omega arith in
      refused (rw (either_right (ltb 201 (length entries)) (ltb 1008 (loop_size + 20)) (lt-ltb 1008 (loop_size + 20) large)))
  stereo_only (refuses {refusal = refusal} few w h at-k lower earlier) =
      let long = loop_size_lem w in
      let short : loop_size + 20 ≤ 1008 = omega arith in
      refused (after_loop_lem few short ∙ ap (λ (v : Written). after_loop v (set_answer room x y entries)) (refused_only x y entries fine few short {refusal = refusal} at-k lower earlier))
  stereo_only (not_the_two s none) = refused (as_set s ∙ by_outcome_lem (Err NotStereoSet) (no_two s none))
  stereo_only (wrong_ranges_lem s two wrong) = refused (as_set s ∙ by_outcome_lem (Err RangesMeet) (outcome_by two true (ranges_only x y wrong)))
  stereo_only (no_room s two right w h) =
      let large : room < size = rw (set_bytes_only x y w) at h in
      refused (as_set s ∙ by_outcome_lem (Ok tt) (outcome_by two false (right_ranges right)) ∙ rw (lt-ltb room size large))
  stereo_only (accepts {bytes = bytes} s two right w h) =
      let same : bytes ≡ stereo_bytes x y entries = set_bytes_only x y w in
      let enough : size ≤ room = rw same at h in
      let e : stereo_answer room x y entries ≡ Ok size =
      as_set s ∙ by_outcome_lem (Ok tt) (outcome_by two false (right_ranges right)) ∙ rw (le-ltb room size enough) in (
        ap (λ (l : List ℕ). Ok (length l)) same ∙ sym e,
        ap (λ (l : List ℕ). l ++ drop (length l) old) same ∙ sym (ap (λ (w : Written). content_after w (stereo_bytes x y entries) old) e),
      )
