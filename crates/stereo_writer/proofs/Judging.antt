-- What the loop writer's numbers say of entries that are to be written as a set, and what the set says of them.
-- Assumes nothing.
use Rattle.std.specs.Prelude.{Err, Ok}
use Prim.Native.Nat.{ℕ, ◌+◌, ◌≤◌, ◌<◌}
use mathlib.Core.Path.{◌≡◌, refl, sym, ◌∙◌, ap, ap₂, subst}
use mathlib.Core.Bool.{Bool, true, false, cond, ◌||◌}
use mathlib.Core.List.{List, [], ◌∷◌, map}
use native.Mathlib.Omega.{arith}
use borrow.Author.Tests.{le-ltb, not-false}
use lib.Dec.{ltb}
use lib.ListN.{length, take}
use lib.Seq.{take_all}
use Rattle.combinators.specs.Bools.{both_ways, false_unless}
use Rattle.combinators.specs.Lists.{Nth, nth_map, nth_of_map, any, any_false}
use Rattle.combinators.specs.Lowest.{lowest_number, earliest_place}
use Rattle.syntax.specs.Table.{fits}
use Rattle.syntax.specs.Filled.{values_in, too_wide_in}
use Rattle.syntax.proofs.Laws.{fits_fit}
use Rattle.vocabulary.specs.declared.refusal.Refusal.{Refusal}
use Rattle.vocabulary.specs.declared.refusal.Refusal.TheVariants.{LoopTooLong, NoRoom, TooWide, NotStereoSet, RangesMeet}
use Rattle.vocabulary.specs.Refusals.{number_of, place_of}
use Rattle.records.specs.declared.Record.{Record}
use Rattle.records.specs.declared.Record.TheVariants.{NoRecord, Hierarchy, Extension, Implied}
use Rattle.judging.specs.Judging.{type_not_allowed, wrong_embedded}
use Rattle.judging.specs.Meaning.{has_descriptor}
use Rattle.judging.proofs.Meant.{refusal_6, refusal_9}
use Rattle.loop_entries.specs.declared.Entry.{Entry}
use Rattle.es_loop.specs.Answer.{Outcome}
use Rattle.loop_faults.specs.Conditions.{refusal_of}
use Rattle.loop_writer.specs.Answer.{Written}
use Rattle.loop_writer.specs.Layout.{loop_bytes, too_wide}
use Rattle.loop_writer.specs.Verdict.{applies_to}
use Rattle.loop_writer.specs.Writing.{in_room, judged_in, answer}
use Rattle.loop_writer.specs.Meaning as Loop
use Rattle.loop_writer.proofs.Meant as loop
use Rattle.loop_writer.proofs.Writes.{bytes_meant, bytes_only}
use Rattle.mvc_extension.specs.declared.MvcExtension.{MvcExtension}
use Rattle.mvc_extension.specs.Ranges.{wrong_ranges, WrongRanges}
use Rattle.mvc_extension.proofs.RangesMeant.{ranges_meant, ranges_only}
use Rattle.mvc_descriptors.specs.declared.Found.{Found}
use Rattle.mvc_descriptors.specs.declared.Found.TheVariants.{One}
use Rattle.stereo_set.specs.declared.views.View.{View}
use Rattle.stereo_set.specs.declared.set.StereoRead.{StereoRead}
use Rattle.stereo_set.specs.Set.{refused_set, accepted_set, ranges_judged, found_judged, described_set}
use Rattle.stereo_set.specs.Two.{LayerAt, LayerOf, TwoLayers}
use Rattle.stereo_set.proofs.Judged.{Fine, entries_in, judged_by, SetCase, no_set, the_set, set_case}
use Rattle.stereo_writer.specs.Layout.{extension_for, view_for}
use Rattle.stereo_writer.specs.Writing.{set_for}
use Rattle.stereo_writer.specs.Meaning.{Sound}

-- ---- the loop writer's numbers

module _ (x y : MvcExtension) (entries : List Entry) (fine : any too_wide entries ≡ false) where
  each_fits : Loop.EachFits (take (length entries) entries)
  each_fits =
      subst Loop.EachFits (sym (take_all (length entries) entries (omega arith)))
      (λ k i e f n m. fits_fit f.table (values_in f) (not-false (fits f.table (values_in f)) (any_false too_wide_in (any_false too_wide fine n) m)))

  given_all : take (length entries) entries ≡ entries
  given_all = take_all (length entries) entries (omega arith)

  -- the answer of the loop writer in a buffer that holds the loop
  abbrev loop_answer : Written
  loop_answer = answer (length (loop_bytes entries)) (length entries) entries

  module _ (few : length entries ≤ 201) (short : length (loop_bytes entries) + 20 ≤ 1008) where
    small : length (loop_bytes entries) ≤ 1008
    small = omega arith

    -- in which there is room, as in one of 1,008 bytes
    room_alike : in_room (length (loop_bytes entries)) (length (loop_bytes entries)) ≡ in_room 1008 (length (loop_bytes entries))
    room_alike =
        ap (λ (b : Bool). cond b (Err NoRoom) (Ok (length (loop_bytes entries)))) (le-ltb (length (loop_bytes entries)) (length (loop_bytes entries)) (omega arith))
        ∙ sym (ap (λ (b : Bool). cond b (Err NoRoom) (Ok (length (loop_bytes entries)))) (le-ltb 1008 (length (loop_bytes entries)) small))

    abbrev lowest : ℕ
    lowest = lowest_number (applies_to entries) 10 (length entries)

    pub judged_alike : loop_answer ≡ judged_in 1008 entries
    judged_alike =
        ap (λ (l : List Entry). cond (any too_wide l) (Err TooWide) (cond (ltb 201 (length entries) || ltb 1008 (length (loop_bytes l))) (Err LoopTooLong) (judged_in (length (loop_bytes entries)) l))) given_all
        ∙ ap (λ (b : Bool). cond b (Err TooWide) (cond (ltb 201 (length entries) || ltb 1008 (length (loop_bytes entries))) (Err LoopTooLong) (judged_in (length (loop_bytes entries)) entries))) fine
        ∙ ap (λ (b : Bool). cond b (Err LoopTooLong) (judged_in (length (loop_bytes entries)) entries)) (ap₂ ◌||◌ (le-ltb 201 (length entries) few) (le-ltb 1008 (length (loop_bytes entries)) small))
        ∙ ap (cond (ltb lowest 10) (Err (refusal_of lowest (earliest_place (applies_to entries) lowest (length entries))))) room_alike

    pub data LoopCase : Written → Type 0 where
      refused_there : {refusal : Refusal} → Loop.Condition entries (number_of refusal) (place_of refusal)
          → ((m j : ℕ) → m < number_of refusal → Loop.Condition entries m j → ⊥)
          → ((j : ℕ) → j < place_of refusal → Loop.Condition entries (number_of refusal) j → ⊥) → LoopCase (Err refusal)
      sound_there : {n : ℕ} → Sound x y entries → LoopCase (Ok n)

    pub loop_case : LoopCase (judged_in 1008 entries)
    loop_case = subst LoopCase judged_alike (go (loop.answer_meant (length entries) entries (loop_bytes entries)))
      where
        go : {w : Written} {new : List ℕ} → Loop.Answers (length entries) entries (loop_bytes entries) w new → LoopCase w
        go (Loop.too_wide_lem (Loop.too_wide_at {k} {i} {e} {f} n m misfit)) = absurd (misfit (each_fits k i e f n m))
        go (Loop.too_many each h) = absurd (omega arith)
        go (Loop.too_long_lem {bytes} each w h) =
            absurd (let same : bytes ≡ loop_bytes entries = bytes_only w ∙ ap loop_bytes given_all in let long = ap length same in let s = small in omega arith)
        go (Loop.refuses {refusal = refusal} each f w s at-k lower earlier) =
            refused_there {refusal = refusal} (subst (λ (l : List Entry). Loop.Condition l (number_of refusal) (place_of refusal)) given_all at-k)
            (λ m j l c. lower m j l (subst (λ (l : List Entry). Loop.Condition l m j) (sym given_all) c))
            (λ j l c. earlier j l (subst (λ (l : List Entry). Loop.Condition l (number_of refusal) j) (sym given_all) c))
        go (Loop.no_room {bytes} each f w s none h) =
            absurd (let same : bytes ≡ loop_bytes entries = bytes_only w ∙ ap loop_bytes given_all in let long = ap length same in omega arith)
        go (Loop.accepts {bytes} each f w s none h) =
            sound_there
            (record {
              few = few;
              loop = loop_bytes entries;
              written = bytes_meant entries fine;
              short = short;
              none = λ n k c. none n k (subst (λ (l : List Entry). Loop.Condition l n k) (sym given_all) c);
            })

    -- and back
    all_written : Loop.WritesEntries (take (length entries) entries) (loop_bytes entries)
    all_written = subst (λ (l : List Entry). Loop.WritesEntries l (loop_bytes entries)) (sym given_all) (bytes_meant entries fine)

    pub refused_only : {refusal : Refusal} → Loop.Condition entries (number_of refusal) (place_of refusal)
        → ((m j : ℕ) → m < number_of refusal → Loop.Condition entries m j → ⊥)
        → ((j : ℕ) → j < place_of refusal → Loop.Condition entries (number_of refusal) j → ⊥) → judged_in 1008 entries ≡ Err refusal
    refused_only {refusal} at-k lower earlier =
        sym judged_alike
        ∙ sym (loop.answer_only (length entries) entries (loop_bytes entries)
        (Loop.refuses {refusal = refusal} each_fits few all_written small (subst (λ (l : List Entry). Loop.Condition l (number_of refusal) (place_of refusal)) (sym given_all) at-k)
        (λ m j l c. lower m j l (subst (λ (l : List Entry). Loop.Condition l m j) given_all c))
        (λ j l c. earlier j l (subst (λ (l : List Entry). Loop.Condition l (number_of refusal) j) given_all c)))).0

    pub sound_only : Sound x y entries → judged_in 1008 entries ≡ Ok (length (loop_bytes entries))
    sound_only s =
        sym judged_alike
        ∙ sym (loop.answer_only (length entries) entries (loop_bytes entries)
        (Loop.accepts each_fits few all_written small (λ n k c. s.none n k (subst (λ (l : List Entry). Loop.Condition l n k) given_all c)) (omega arith))).0

-- ---- the set

module _ (x y : MvcExtension) (entries : List Entry) where
  abbrev views : List View
  views = map (view_for x y) entries

  same_entries : entries_in views ≡ entries
  same_entries = go entries
    where
      go : (es : List Entry) → map (λ (v : View). v.entry) (map (view_for x y) es) ≡ es
      go [] = refl
      go (e ∷ es) = ap (λ (l : List Entry). e ∷ l) (go es)

  -- entries that the loop writer does not refuse
  fine_there : ((n k : ℕ) → Loop.Condition entries n k → ⊥) → (k : ℕ) (e : Entry) → Nth (entries_in views) k e → Fine e
  fine_there none k e n = go e.«record» refl
    where
      at_place : Nth entries k e
      at_place = subst (λ (l : List Entry). Nth l k e) same_entries n

      nine : wrong_embedded e.stream_type e.«record» e.embedded ≡ false
      nine = false_unless _ (λ t. none 9 k (Loop.embedded_wrong at_place ((refusal_9 e.stream_type e.«record» e.embedded).0 t)))

      by_descriptor : (r : Record) → e.«record» ≡ r → has_descriptor r ≡ true → type_not_allowed false e.stream_type e.«record» ≡ false
      by_descriptor r p d =
          false_unless _ (λ t. none 6 k (Loop.type_wrong at_place (ap has_descriptor p ∙ d) ((refusal_6 false e.stream_type e.«record»).0 t)))

      go : (r : Record) → e.«record» ≡ r → Fine e
      go NoRecord p = record { given = false; six = ap (type_not_allowed false e.stream_type) p; nine = nine }
      go (Hierarchy h) p = record { given = false; six = by_descriptor (Hierarchy h) p refl; nine = nine }
      go (Extension z) p = record { given = false; six = by_descriptor (Extension z) p refl; nine = nine }
      go Implied p = record { given = true; six = ap (type_not_allowed true e.stream_type) p; nine = nine }

  -- two layers of entries, as they are looked at, have the descriptors that they are given
  described : (a b : View) {j k : ℕ} → Nth views j a → Nth views k b → a.entry.stream_type ≡ 0x1B → b.entry.stream_type ≡ 0x20
      → described_set a b ≡ ranges_judged a.entry x b.entry y
  described a b n m is_base is_second =
      let u = nth_of_map (view_for x y) entries n in
      let w = nth_of_map (view_for x y) entries m in
      let first : a.found ≡ One x =
      sym (ap (λ (v : View). v.found) u.2) ∙ ap (λ (t : ℕ). One (extension_for x y t)) (ap (λ (v : View). v.entry.stream_type) u.2 ∙ is_base) in
      let second : b.found ≡ One y =
      sym (ap (λ (v : View). v.found) w.2) ∙ ap (λ (t : ℕ). One (extension_for x y t)) (ap (λ (v : View). v.entry.stream_type) w.2 ∙ is_second) in
      ap₂ (λ (f g : Found). found_judged a.entry f b.entry g) first second

  -- THE SET IS JUDGED by the two layers that are meant.
  pub judged_by_two : {base second : Entry} → TwoLayers entries base second → set_for x y entries ≡ ranges_judged base x second y
  judged_by_two {base} {second} t =
      judged_by views moved (nth_map (view_for x y) t.is_base.stands.entry) (nth_map (view_for x y) t.is_second.stands.entry)
      ∙ described (view_for x y base) (view_for x y second) (nth_map (view_for x y) t.is_base.stands.entry) (nth_map (view_for x y) t.is_second.stands.entry) t.is_base.type t.is_second.type
    where
      moved : TwoLayers (entries_in views) base second
      moved =
          record {
            base_place = t.base_place;
            second_place = t.second_place;
            is_base = subst (λ (l : List Entry). LayerOf l t.base_place 0x1B 0 [] base) (sym same_entries) t.is_base;
            is_second = subst (λ (l : List Entry). LayerOf l t.second_place 0x20 1 (0 ∷ []) second) (sym same_entries) t.is_second;
            no_other = λ k e l. t.no_other k e (subst (λ (es : List Entry). LayerAt es k e) same_entries l);
          }

  pub data SetOutcome : Outcome → Type 0 where
    forty_four : ((base second : Entry) → TwoLayers entries base second → ⊥) → SetOutcome (Err NotStereoSet)
    forty_six : {base second : Entry} → TwoLayers entries base second → WrongRanges x y → SetOutcome (Err RangesMeet)
    a_set : {base second : Entry} → TwoLayers entries base second → (WrongRanges x y → ⊥) → SetOutcome (Ok tt)

  pub set_outcome : ((n k : ℕ) → Loop.Condition entries n k → ⊥) → SetOutcome (set_for x y entries).outcome
  set_outcome none = go (set_case views (fine_there none))
    where
      by_ranges : {base second : Entry} → TwoLayers entries base second → (b : Bool) → wrong_ranges x y ≡ b
          → SetOutcome (cond b (refused_set RangesMeet) (accepted_set base x second y)).outcome
      by_ranges two true p = forty_six two (ranges_meant x y p)
      by_ranges two false p = a_set two (λ w. both_ways (ranges_only x y w) p)

      go : {r : StereoRead} → SetCase views r → SetOutcome r.outcome
      go (no_set f) = forty_four (λ base second two. f base second (subst (λ (l : List Entry). TwoLayers l base second) (sym same_entries) two))
      go (the_set {a} {b} two n m) =
          let moved : TwoLayers entries a.entry b.entry = subst (λ (l : List Entry). TwoLayers l a.entry b.entry) same_entries two in
          subst SetOutcome (sym (ap (λ (r : StereoRead). r.outcome) (described a b n m two.is_base.type two.is_second.type)))
          (by_ranges moved (wrong_ranges x y) refl)
