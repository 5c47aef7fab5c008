-- THE ROUND TRIPS OF THE WRITER, under the 2015 reading.
-- * `read_back`: what the writer accepts is read again, and the entries come back as they were given (`read_back_exactly`, `buffer_holds`).
-- * `same_refusal`: what the writer refuses with 1, 3 or 6 to 9, reading the same entries' bytes refuses with the same number and place. The
--   exceptions are a record on a stream type that the 2015 reading does not know and an implied mark that isn't what the rule gives: the writer
--   refuses them with 6, and reading does not look at the one, and sets the mark itself.
--   (25 is of values that no bytes hold, and 17 of the buffer: reading has neither.)
-- Assumes nothing.
use Rattle.std.specs.Prelude.{ℕ, zero, suc, ◌≤◌, ◌<◌, ◌≡◌, refl, Bool, true, false, cond, ◌||◌, List, [], ◌∷◌, ◌++◌, map, ltb, length, get_or, take, drop, replicate, Err, Ok}
use Rattle.std.proofs.Common.{sym, ◌∙◌, ap, ap₂, subst, arith, lt-ltb, le-ltb, ltb-true, ltb-false}
use Rattle.std.proofs.lemmas.List.{length-map, get_or-replicate}
use Rattle.std.proofs.Math.Seq.{take-append_seam}
use Rattle.combinators.specs.Bools.{neither_left, neither_right}
use Rattle.combinators.specs.Lists.{Nth, here, there, nth_inside, nth_get_d, any, handled}
use Rattle.combinators.specs.Lowest.{Lowest, lowest_number, earliest_place}
use Rattle.combinators.proofs.Lowest.{lowest_is}
use Rattle.combinators.specs.Padding.{pad_to}
use Rattle.vocabulary.specs.declared.stream_types.Reading.TheVariants.{Edition2015}
use Rattle.vocabulary.specs.declared.refusal.Refusal.{Refusal}
use Rattle.vocabulary.specs.declared.refusal.Refusal.TheVariants.{LoopTooLong, NoRoom, TooWide}
use Rattle.vocabulary.specs.Refusals.{number_of, place_of}
use Rattle.loop_entries.specs.declared.Entry.{Entry}
use Rattle.loop_entries.specs.declared.Stream.{Stream}
use Rattle.loop_entries.specs.Entries.{blank_entry, entry_of, streams_of}
use Rattle.loop_faults.specs.Conditions.{applies, refusal_of}
use Rattle.es_loop.specs.declared.reader.LoopRead.{LoopRead}
use Rattle.es_loop.specs.Reading.{refused_with, judged, answer_by, loop_read}
use Rattle.es_loop.proofs.Verdicts.{judged_refused, judged_accepted}
use Rattle.loop_writer.specs.Layout.{loop_bytes, too_wide}
use Rattle.loop_writer.specs.Verdict.{stream_for, applies_to, pair_for}
use Rattle.loop_writer.specs.Answer.{Written}
use Rattle.loop_writer.specs.Writing.{answer, content_after, content}
use Rattle.loop_round_trip.specs.ReadBack.{writers_own_six, normal, read_as, read_again, Typed}
use Rattle.loop_round_trip.proofs.ReadBack.{read_written}
use Rattle.loop_round_trip.proofs.Verdicts.{NotBySix, read_normal, same_lowest, none_unknown}

-- THE ANSWER, CASE BY CASE: what is known where it is so many bytes, and where it is a refusal.
pub record Writes (room count : ℕ) (array : List Entry) (n : ℕ) : Type 0 where
  pub none_wide : any too_wide (take count array) ≡ false
  pub few : count ≤ 201
  pub short : length (loop_bytes (take count array)) ≤ 1008
  pub none_applies : 10 ≤ lowest_number (applies_to (take count array)) 10 (length (take count array))
  pub fits : length (loop_bytes (take count array)) ≤ room
  pub size : n ≡ length (loop_bytes (take count array))

pub data Refuses (room count : ℕ) (array : List Entry) : Refusal → Type 0 where
  wide : any too_wide (take count array) ≡ true → Refuses room count array TooWide
  too_long_lem : any too_wide (take count array) ≡ false → (ltb 201 count || ltb 1008 (length (loop_bytes (take count array)))) ≡ true
      → Refuses room count array LoopTooLong
  judged_by : {n k : ℕ} → any too_wide (take count array) ≡ false → count ≤ 201 → length (loop_bytes (take count array)) ≤ 1008
      → Lowest (applies_to (take count array)) 10 (length (take count array)) n k → n < 10 → Refuses room count array (refusal_of n k)
  no_room : any too_wide (take count array) ≡ false → room < length (loop_bytes (take count array)) → Refuses room count array NoRoom

-- which of the two it is
abbrev Case : ℕ → ℕ → List Entry → Written → Type 0
Case room count array (Ok n) = Writes room count array n
Case room count array (Err r) = Refuses room count array r

module _ (room count : ℕ) (array : List Entry) where
  abbrev given : List Entry
  given = take count array

  abbrev lowest : ℕ
  lowest = lowest_number (applies_to given) 10 (length given)

  answer_case : Case room count array (answer room count array)
  answer_case =
      go (any too_wide given) refl (ltb 201 count || ltb 1008 (length (loop_bytes given))) refl (ltb lowest 10) refl (ltb room (length (loop_bytes given))) refl
    where
      go : (a : Bool) → any too_wide given ≡ a → (b : Bool) → (ltb 201 count || ltb 1008 (length (loop_bytes given))) ≡ b → (c : Bool)
          → ltb lowest 10 ≡ c → (d : Bool) → ltb room (length (loop_bytes given)) ≡ d → Case room count array (answer room count array)
      go true p b q c s d t = rw p (wide p)
      go false p true q c s d t = rw (p, q) (too_long_lem p q)
      go false p false q true s d t =
          let few : count ≤ 201 = ltb-false 201 count (neither_left (ltb 201 count) (ltb 1008 (length (loop_bytes given))) q) in
          let short : length (loop_bytes given) ≤ 1008 =
          ltb-false 1008 (length (loop_bytes given)) (neither_right (ltb 201 count) (ltb 1008 (length (loop_bytes given))) q) in
          rw (p, q, s) (judged_by p few short (lowest_is (applies_to given) 10 (length given)) (ltb-true lowest 10 s))
      go false p false q false s true t = rw (p, q, s, t) (no_room p (ltb-true room (length (loop_bytes given)) t))
      go false p false q false s false t =
          rw (p, q, s, t)
          (record {
            none_wide = p;
            few = ltb-false 201 count (neither_left (ltb 201 count) (ltb 1008 (length (loop_bytes given))) q);
            short = ltb-false 1008 (length (loop_bytes given)) (neither_right (ltb 201 count) (ltb 1008 (length (loop_bytes given))) q);
            none_applies = ltb-false lowest 10 s;
            fits = ltb-false room (length (loop_bytes given)) t;
            size = refl;
          })

  pub writes : {n : ℕ} → answer room count array ≡ Ok n → Writes room count array n
  writes e = subst (Case room count array) e answer_case

  pub refuses : {r : Refusal} → answer room count array ≡ Err r → Refuses room count array r
  refuses e = subst (Case room count array) e answer_case

-- ---- reading the bytes of entries none of which is too wide

all_normal : (pair : Bool) (es : List Entry) → ((k : ℕ) (e : Entry) → Nth es k e → writers_own_six pair e ≡ false) → map (read_as pair) es ≡ map normal es
all_normal pair [] f = refl
all_normal pair (e ∷ es) f =
    ap₂ (λ (x : Entry) (xs : List Entry). x ∷ xs) (read_normal pair e (f 0 e here)) (all_normal pair es (λ k x n. f (suc k) x (there n)))

entries_back : (es : List Entry) → map entry_of (map stream_for es) ≡ es
entries_back [] = refl
entries_back (e ∷ es) = ap (λ (l : List Entry). e ∷ l) (entries_back es)

module _ {es : List Entry} (typed : Typed es) (fit : any too_wide es ≡ false) where
  abbrev seen : List Stream
  seen = map stream_for (read_again es)

  as_long : length seen ≡ length es
  as_long = length-map (read_again es) stream_for ∙ length-map es (read_as (pair_for es))

  abbrev by_length : Bool → LoopRead
  by_length b =
      let all : List Stream = streams_of Edition2015 (loop_bytes es) in
      answer_by all (cond b (Err LoopTooLong) (judged all))

  reading : length (loop_bytes es) ≤ 1008 → loop_read Edition2015 (loop_bytes es) ≡ answer_by seen (judged seen)
  reading short =
      ap by_length (le-ltb 1008 (length (loop_bytes es)) short) ∙ ap (λ (ss : List Stream). answer_by ss (judged ss)) (read_written typed fit)

  reading_long : 1008 < length (loop_bytes es) → loop_read Edition2015 (loop_bytes es) ≡ refused_with LoopTooLong
  reading_long long = ap by_length (lt-ltb 1008 (length (loop_bytes es)) long)

  module _ (number place : ℕ) (low : Lowest (applies_to es) 10 (length es) number place) (u : NotBySix es typed fit number place) where
    seen_lowest : Lowest (applies seen) 10 (length seen) number place
    seen_lowest = subst (λ (n : ℕ). Lowest (applies seen) 10 n number place) (sym as_long) (same_lowest es typed fit number place low u)

  -- no number applies: the reader accepts, and answers the entries
  reading_accepts : (place : ℕ) → Lowest (applies_to es) 10 (length es) 10 place → length (loop_bytes es) ≤ 1008
      → loop_read Edition2015 (loop_bytes es) ≡ record { outcome = Ok tt; count = length es; entries = pad_to 201 blank_entry (map normal es) }
  reading_accepts place low short =
      let unknown : (k : ℕ) (e : Entry) → Nth es k e → writers_own_six (pair_for es) e ≡ false =
      λ k e n. sym (ap (writers_own_six (pair_for es)) (nth_get_d blank_entry n)) ∙ none_unknown es typed fit 10 place low (omega arith) k (nth_inside n) in
      let low-seen = seen_lowest 10 place low (λ six. absurd (omega arith)) in
      reading short ∙ sym (ap (answer_by seen) (judged_accepted seen place low-seen))
      ∙ ap₂ (λ (n : ℕ) (l : List Entry). record { outcome = Ok tt; count = n; entries = pad_to 201 blank_entry l }) as_long
      (entries_back (read_again es) ∙ all_normal (pair_for es) es unknown)

-- ---- the numbers that apply are those of their refusals

pub numbered : (n k : ℕ) → n < 10 → 2 ≤ n → (number_of (refusal_of n k) ≡ n) × (place_of (refusal_of n k) ≡ k)
numbered n k h l =
    handled (λ m. 2 ≤ m → (number_of (refusal_of m k) ≡ m) × (place_of (refusal_of m k) ≡ k)) (replicate 10 true) (
      (λ t i. absurd (omega arith)),
      (
        (λ t i. absurd (omega arith)),
        (
          (λ t i. (refl, refl)),
          (
            (λ t i. (refl, refl)),
            (
              (λ t i. (refl, refl)),
              ((λ t i. (refl, refl)), ((λ t i. (refl, refl)), ((λ t i. (refl, refl)), ((λ t i. (refl, refl)), ((λ t i. (refl, refl)), tt))))),
            ),
          ),
        ),
      ),
    )
    n (get_or-replicate 10 n true false h) l

pub none_below : (es : List Entry) (n k : ℕ) → applies_to es n k ≡ true → 2 ≤ n
none_below es zero k t = let z : ◌≡◌ {A = ℕ} 0 1 = cc in absurd (omega arith)
none_below es (suc zero) k t = let z : ◌≡◌ {A = ℕ} 0 1 = cc in absurd (omega arith)
none_below es (suc (suc n)) k t = omega arith

-- ---- THE ROUND TRIPS

module _ (room count : ℕ) (array : List Entry) (typed : Typed (take count array)) where
  -- READING WHAT WAS WRITTEN is accepted, and gives back the entries that were given, with blanks in each array beyond its count.
  pub read_back : {n : ℕ} → answer room count array ≡ Ok n
      → loop_read Edition2015 (loop_bytes (take count array))
      ≡ record { outcome = Ok tt; count = length (take count array); entries = pad_to 201 blank_entry (map normal (take count array)) }
  read_back e =
      let es : List Entry = take count array in
      let w = writes room count array e in
      let low = lowest_is (applies_to es) 10 (length es) in
      let number : ℕ = lowest_number (applies_to es) 10 (length es) in
      let ten : number ≡ 10 = omega (arith, low.within, w.none_applies) in
      reading_accepts typed w.none_wide (earliest_place (applies_to es) number (length es))
      (subst (λ (m : ℕ). Lowest (applies_to es) 10 (length es) m (earliest_place (applies_to es) number (length es))) ten low) w.short

  -- Where each array has blanks beyond its count, as the reader leaves it, these are exactly the entries that were given.
  pub read_back_exactly : {n : ℕ} → map normal (take count array) ≡ take count array → answer room count array ≡ Ok n
      → loop_read Edition2015 (loop_bytes (take count array))
      ≡ record { outcome = Ok tt; count = length (take count array); entries = pad_to 201 blank_entry (take count array) }
  read_back_exactly blank e =
      read_back e
      ∙ ap (λ (l : List Entry). record { outcome = Ok tt; count = length (take count array); entries = pad_to 201 blank_entry l }) blank

  -- A REFUSAL IS THE SAME: 1, 3 and 7 to 9 in every case, 6 where the record at its place stands on a known stream type and its mark is what the rule gives.
  pub same_refusal : {r : Refusal} → count ≤ 201 → answer room count array ≡ Err r → number_of r ≤ 9
      → (number_of r ≡ 6 → writers_own_six (pair_for (take count array)) (get_or (take count array) (place_of r) blank_entry) ≡ false)
      → loop_read Edition2015 (loop_bytes (take count array)) ≡ refused_with r
  same_refusal few e small six = go (refuses room count array e) small six
    where
      es : List Entry
      es = take count array

      go : {r : Refusal} → Refuses room count array r → number_of r ≤ 9 → (number_of r ≡ 6 → writers_own_six (pair_for es) (get_or es (place_of r) blank_entry) ≡ false)
          → loop_read Edition2015 (loop_bytes es) ≡ refused_with r
      go (wide p) h s = absurd (omega arith)
      go (too_long_lem p q) h s =
          reading_long typed p (ltb-true 1008 (length (loop_bytes es)) (rw (le-ltb 201 count few) at q))
      go (judged_by {n} {k} p f short low l) h s =
          let named = numbered n k l (none_below es n k (low.holds l)) in
          reading typed p short
          ∙ sym (ap (answer_by (map stream_for (read_again es))) (judged_refused (map stream_for (read_again es)) n k
          (seen_lowest typed p n k low (λ is-six. rw (← named.1) (s (named.0 ∙ is-six)))) l))
      go (no_room p q) h s = absurd (omega arith)

-- What the buffer holds after writing are the bytes of which this speaks.
pub buffer_holds : (count : ℕ) (array : List Entry) (old : List ℕ) {n : ℕ} → answer (length old) count array ≡ Ok n
    → take n (content count array old) ≡ loop_bytes (take count array)
buffer_holds count array old {n} e =
    let bytes : List ℕ = loop_bytes (take count array) in
    let size : n ≡ length bytes = (writes (length old) count array e).size in
    ap (λ (w : Written). take n (content_after w bytes old)) e
    ∙ ap (λ (m : ℕ). take m (bytes ++ drop n old)) size ∙ take-append_seam bytes (drop n old)
