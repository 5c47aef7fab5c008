-- The law that joins the meaning of writing a loop to what is computed, both ways.
-- Assumes nothing.
use Rattle.std.specs.Prelude.{Err, Ok}
use Prim.Native.Nat.{ℕ, ◌≤◌, ◌<◌}
use mathlib.Core.Path.{◌≡◌, refl, sym, ◌∙◌, ap, ap₂}
use mathlib.Core.Bool.{Bool, true, false, not, ◌&&◌}
use mathlib.Core.List.{List, ◌++◌, map}
use native.Mathlib.Omega.{arith}
use borrow.Author.Tests.{lt-ltb, le-ltb, ltb-true, ltb-false, eq-eqb, eqb-true, not-true, not-false}
use lib.Dec.{eqb, ltb}
use lib.ListN.{length, drop, get_or, take}
use Rattle.combinators.specs.Below.{some_at, some_which}
use Rattle.combinators.specs.Bools.{both_left, both_right, either_right, apart, both_ways, false_unless}
use Rattle.combinators.specs.Lists.{Nth, nth_inside, get_d_nth, nth_map, nth_of_map, get_d_map, any, any_true, any_false, any_which, handled}
use Rattle.combinators.specs.Lowest.{Lowest, lowest_number, earliest_place}
use Rattle.combinators.proofs.Lowest.{lowest_number_lem, earliest_place_lem, lowest_is}
use Rattle.syntax.specs.Table.{fits}
use Rattle.syntax.proofs.Laws.{fits_fit, fit_fits}
use Rattle.records.specs.declared.Record.{Record}
use Rattle.records.specs.declared.Record.TheVariants.{NoRecord, Hierarchy, Extension, Implied}
use Rattle.records.specs.Records.{is_layer, index_of}
use Rattle.implied.specs.Rule.{Shown, is_view, given as given_by}
use Rattle.implied.specs.Marking.{is_described}
use Rattle.implied.specs.Meaning.{OnlyOne}
use Rattle.implied.proofs.Meant.{pair_meant, pair_only}
use Rattle.judging.specs.Judging.{same_index, type_not_allowed, wrong_flags, wrong_embedded}
use Rattle.judging.specs.Meaning.{has_descriptor}
use Rattle.judging.proofs.Meant.{refusal_6, refusal_7, refusal_9}
use Rattle.loop_entries.specs.declared.Entry.{Entry}
use Rattle.loop_entries.specs.declared.Stream.{Stream}
use Rattle.loop_entries.specs.Entries.{no_stream, blank_entry, shown_of}
use Rattle.loop_faults.specs.Conditions.{refusal_of, stream_at, pid_at, repeated_pid, repeated_index, conditions, applies}
use Rattle.syntax.specs.Filled.{Filled, values_in, too_wide_in}
use Rattle.loop_writer.specs.Layout.{entry_tables, loop_bytes, too_wide}
use Rattle.loop_writer.specs.Verdict.{stream_for, applies_to, pair_for, given_to}
use Rattle.es_loop.proofs.Meant.{named_refusal}
use Rattle.vocabulary.specs.Refusals.{number_of, place_of}
use Rattle.vocabulary.specs.declared.refusal.Refusal.{Refusal}
use Rattle.loop_writer.specs.Answer.{Written}
use Rattle.loop_writer.proofs.Writes.{bytes_meant, bytes_only}
use Rattle.loop_writer.specs.Writing.{answer, content_after}
use Rattle.loop_writer.specs.Meaning.{SomeTooWide, too_wide_at, EachFits, OnlyView, ImpliedViews, Condition, pid_seen, type_wrong, mark_not_given, mark_missing, flags_wrong, index_held, embedded_wrong, Answers, too_wide_lem, too_many, too_long_lem, refuses, no_room, accepts}

module _ (es : List Entry) where
  -- 25
  wide_means : any too_wide es ≡ true → SomeTooWide es
  wide_means e =
      let w = any_which too_wide es e in
      let v = any_which too_wide_in (entry_tables w.1) w.3 in
      let f : Filled = v.1 in
      too_wide_at w.2 v.2 (λ fit. both_ways (fit_fits fit) (not-true (fits f.table (values_in f)) v.3))

  wide_test : SomeTooWide es → any too_wide es ≡ true
  wide_test (too_wide_at {f = f} n m misfit) =
      any_true too_wide n (any_true too_wide_in m (ap not (false_unless (fits f.table (values_in f)) (λ t. misfit (fits_fit f.table (values_in f) t)))))

  fine_means : any too_wide es ≡ false → EachFits es
  fine_means e k i x f n m =
      fits_fit f.table (values_in f) (not-false (fits f.table (values_in f)) (any_false too_wide_in (any_false too_wide e n) m))

  fine_test : EachFits es → any too_wide es ≡ false
  fine_test each = false_unless (any too_wide es) (λ t. no_wide (wide_means t))
    where
      no_wide : SomeTooWide es → ⊥
      no_wide (too_wide_at {k} {i} {e} {f} n m misfit) = misfit (each k i e f n m)

  -- 3 and 6 to 9
  abbrev given : List Stream
  given = map stream_for es

  abbrev shown : List Shown
  shown = map shown_of given

  at : {k : ℕ} {e : Entry} → Nth es k e → stream_at given k ≡ stream_for e
  at n = get_d_map stream_for no_stream n

  abbrev index_same : Stream → Stream → Bool
  index_same s s' = same_index s.stream_type s.seen.«record» s'.stream_type s'.seen.«record»

  -- the two views: what the rule looks at of an entry is what the meaning says of it
  shown_at : {k : ℕ} {e : Entry} → Nth es k e → Nth shown k (shown_of (stream_for e))
  shown_at n = nth_map shown_of (nth_map stream_for n)

  which_entry : {k : ℕ} {s : Shown} → Nth shown k s → (e : Entry) × Nth es k e × (shown_of (stream_for e) ≡ s)
  which_entry n =
      let stream = nth_of_map shown_of given n in
      let entry = nth_of_map stream_for es stream.1 in
      (entry.0, entry.1, ap shown_of entry.2 ∙ stream.2)

  only_shown : {t : ℕ} → OnlyView es t → OnlyOne t shown
  only_shown {t} only =
      record {
        place = only.place;
        entry = shown_of (stream_for only.entry);
        stands = shown_at only.stands;
        type = only.type;
        alone = alone_there;
        plain = undescribed only.entry.«record» refl;
      }
    where
      alone_there : (j : ℕ) (other : Shown) → Nth shown j other → other.type ≡ t → j ≡ only.place
      alone_there j other n p = let w = which_entry n in only.alone j w.0 w.1 (ap (λ (x : Shown). x.type) w.2 ∙ p)

      undescribed : (r : Record) → only.entry.«record» ≡ r → is_described only.entry.«record» ≡ false
      undescribed NoRecord p = ap is_described p
      undescribed (Hierarchy h) p = absurd (only.plain h p)
      undescribed (Extension x) p = ap is_described p
      undescribed Implied p = ap is_described p

  shown_only : {t : ℕ} → OnlyOne t shown → OnlyView es t
  shown_only {t} only =
      let w = which_entry only.stands in
      record {
        place = only.place;
        entry = w.0;
        stands = w.1;
        type = ap (λ (x : Shown). x.type) w.2 ∙ only.type;
        alone = λ j other n p. only.alone j (shown_of (stream_for other)) (shown_at n) p;
        plain = λ h p. both_ways (ap is_described p) (ap (λ (x : Shown). x.described) w.2 ∙ only.plain);
      }

  pub views_meant : pair_for es ≡ true → ImpliedViews es
  views_meant t = let pair = pair_meant shown t in record { first = shown_only pair.first; second = shown_only pair.second }

  pub views_only : ImpliedViews es → pair_for es ≡ true
  views_only views = pair_only (record { first = only_shown views.first; second = only_shown views.second })

  abbrev six : Stream → Bool
  six s = type_not_allowed (given_by (pair_for es) s.stream_type) s.stream_type s.seen.«record»

  -- of a descriptor what is given says nothing
  unmarked : (is_given : Bool) (t : ℕ) (r : Record) → has_descriptor r ≡ true → type_not_allowed is_given t r ≡ type_not_allowed false t r
  unmarked is_given t NoRecord d = apart d
  unmarked is_given t (Hierarchy h) d = refl
  unmarked is_given t (Extension x) d = refl
  unmarked is_given t Implied d = apart d

  tested : {n k : ℕ} → Condition es n k → applies_to es n k ≡ true
  tested (pid_seen {j} {k} h n m p) =
      (some_at (λ j. eqb (pid_at given j) (pid_at given k)) k j h
      (eq-eqb (pid_at given j) (pid_at given k) (ap (λ (s : Stream). s.pid) (at n) ∙ p ∙ sym (ap (λ (s : Stream). s.pid) (at m)))))
  tested (type_wrong {k} {e} n d w) =
      (ap six (at n) ∙ unmarked (given_to (pair_for es) e) e.stream_type e.«record» d ∙ (refusal_6 false e.stream_type e.«record»).1 w)
  tested (mark_not_given {k} {e} n p none) =
      ap six (at n) ∙ ap (type_not_allowed (given_to (pair_for es) e) e.stream_type) p
      ∙ ap not (false_unless (given_to (pair_for es) e) (λ t. none (views_meant (both_right (is_view e.stream_type) (pair_for es) t)) (both_left (is_view e.stream_type) (pair_for es) t)))
  tested (mark_missing {k} {e} n p views view) =
      ap six (at n) ∙ ap (type_not_allowed (given_to (pair_for es) e) e.stream_type) p ∙ rw (view, views_only views)
  tested (flags_wrong {k} {e} n w) =
      (ap (λ (s : Stream). wrong_flags s.seen.«record») (at n) ∙ (refusal_7 e.«record»).1 w)
  tested (index_held {j} {k} {e} {e'} h n m l l' p) =
      (some_at (λ j. index_same (stream_at given j) (stream_at given k)) k j h
      (ap₂ index_same (at n) (at m) ∙ rw (l, l', eq-eqb (index_of e.stream_type e.«record») (index_of e'.stream_type e'.«record») p)))
  tested (embedded_wrong {k} {e} n w) =
      (ap (λ (s : Stream). wrong_embedded s.stream_type s.seen.«record» s.seen.embedded) (at n)
      ∙ (refusal_9 e.stream_type e.«record» e.embedded).1 w)

  module _ (k : ℕ) (h : k < length es) where
    abbrev e : Entry
    e = get_or es k blank_entry

    n : Nth es k e
    n = get_d_nth es k blank_entry h

    repeated : repeated_pid given k ≡ true → Condition es 3 k
    repeated t =
        let w = some_which (λ j. eqb (pid_at given j) (pid_at given k)) k t in
        let m : Nth es w.0 (get_or es w.0 blank_entry) = get_d_nth es w.0 blank_entry (omega (arith, w.1)) in
        pid_seen w.1 m n
        (sym (ap (λ (s : Stream). s.pid) (at m)) ∙ eqb-true (pid_at given w.0) (pid_at given k) w.2 ∙ ap (λ (s : Stream). s.pid) (at n))

    held : repeated_index given k ≡ true → Condition es 8 k
    held t =
        let w = some_which (λ j. index_same (stream_at given j) (stream_at given k)) k t in
        let x : Entry = get_or es w.0 blank_entry in
        let m : Nth es w.0 x = get_d_nth es w.0 blank_entry (omega (arith, w.1)) in
        let same : index_same (stream_for x) (stream_for e) ≡ true = sym (ap₂ index_same (at m) (at n)) ∙ w.2 in
        let a : Bool = is_layer x.«record» in
        let b : Bool = is_layer e.«record» in
        let i : Bool = eqb (index_of x.stream_type x.«record») (index_of e.stream_type e.«record») in
        let layers : (a && b) ≡ true = both_left (a && b) i same in
        index_held w.1 m n (both_left a b layers) (both_right a b layers) (eqb-true (index_of x.stream_type x.«record») (index_of e.stream_type e.«record») (both_right (a && b) i same))

    -- 6 by the record: a descriptor is judged, a mark has to be given, and where there is neither none may be
    by_record : (r : Record) → e.«record» ≡ r → type_not_allowed (given_to (pair_for es) e) e.stream_type r ≡ true → Condition es 6 k
    by_record NoRecord p t =
        mark_missing n p (views_meant (both_right (is_view e.stream_type) (pair_for es) t)) (both_left (is_view e.stream_type) (pair_for es) t)
    by_record (Hierarchy h) p t = type_wrong n (ap has_descriptor p) (rw p ((refusal_6 false e.stream_type (Hierarchy h)).0 t))
    by_record (Extension x) p t = type_wrong n (ap has_descriptor p) (rw p ((refusal_6 false e.stream_type (Extension x)).0 t))
    by_record Implied p t =
        mark_not_given n p (λ views view. both_ways {b = given_to (pair_for es) e} (rw (view, views_only views)) (not-true (given_to (pair_for es) e) t))

    named : (number : ℕ) → applies given number k ≡ true → Condition es number k
    named number t =
        handled (λ m. Condition es m k) (conditions (given_to (pair_for es) e) (repeated_pid given k) (repeated_index given k) (stream_for e)) (
          apart,
          (
            apart,
            (
              apart,
              (
                repeated,
                (
                  apart,
                  (
                    apart,
                    (
                      by_record e.«record» refl,
                      (
                        (λ p. flags_wrong n ((refusal_7 e.«record»).0 p)),
                        (
                          held,
                          (
                            (λ p. embedded_wrong n ((refusal_9 e.stream_type e.«record» e.embedded).0 p)),
                            tt,
                          ),
                        ),
                      ),
                    ),
                  ),
                ),
              ),
            ),
          ),
        ) number
        (sym (ap (λ (s : Stream). get_or (conditions (given_by (pair_for es) s.stream_type) (repeated_pid given k) (repeated_index given k) s) number false) (at n)) ∙ t)

  inside : {m k : ℕ} → Condition es m k → k < length es
  inside (pid_seen h a b p) = nth_inside b
  inside (type_wrong a d w) = nth_inside a
  inside (mark_not_given a p none) = nth_inside a
  inside (mark_missing a p views view) = nth_inside a
  inside (flags_wrong a w) = nth_inside a
  inside (index_held h a b l l' p) = nth_inside b
  inside (embedded_wrong a w) = nth_inside a

  numbers : {m k : ℕ} → Condition es m k → m < 10
  numbers (pid_seen h a b p) = omega arith
  numbers (type_wrong a d w) = omega arith
  numbers (mark_not_given a p none) = omega arith
  numbers (mark_missing a p views view) = omega arith
  numbers (flags_wrong a w) = omega arith
  numbers (index_held h a b l l' p) = omega arith
  numbers (embedded_wrong a w) = omega arith

  -- the refusal of a number whose condition holds at an entry has that number, and that entry for its place
  named_place : {m k : ℕ} → Condition es m k → (number_of (refusal_of m k) ≡ m) × (place_of (refusal_of m k) ≡ k)
  named_place (pid_seen h a b p) = (refl, refl)
  named_place (type_wrong a d w) = (refl, refl)
  named_place (mark_not_given a p none) = (refl, refl)
  named_place (mark_missing a p views view) = (refl, refl)
  named_place (flags_wrong a w) = (refl, refl)
  named_place (index_held h a b l l' p) = (refl, refl)
  named_place (embedded_wrong a w) = (refl, refl)

-- THE ANSWER COMPUTED HAS THE MEANING.
module _ (count : ℕ) (array : List Entry) (old : List ℕ) where
  abbrev room : ℕ
  room = length old

  abbrev entries : List Entry
  entries = take count array

  abbrev size : ℕ
  size = length (loop_bytes entries)

  abbrev lowest : ℕ
  lowest = lowest_number (applies_to entries) 10 (length entries)

  abbrev place : ℕ
  place = earliest_place (applies_to entries) lowest (length entries)

  abbrev written : Written
  written = answer room count array

  low : Lowest (applies_to entries) 10 (length entries) lowest place
  low = lowest_is (applies_to entries) 10 (length entries)

  abbrev Meets : Written → Type 0
  Meets w = Answers count array old w (content_after w (loop_bytes entries) old)

  pub answer_meant : Meets written
  answer_meant = go (any too_wide entries) refl (ltb 201 count) refl (ltb 1008 size) refl (ltb lowest 10) refl (ltb room size) refl
    where
      none : ltb lowest 10 ≡ false → (m k : ℕ) → Condition entries m k → ⊥
      none s m k c =
          both_ways (tested entries c) (low.lower m k (omega (arith, numbers entries c, ltb-false lowest 10 s)) (inside entries c))

      go : (a : Bool) → any too_wide entries ≡ a → (m : Bool) → ltb 201 count ≡ m → (b : Bool) → ltb 1008 size ≡ b → (c : Bool) → ltb lowest 10 ≡ c → (d : Bool)
          → ltb room size ≡ d → Meets written
      go true p m i b q c s d t = rw p (too_wide_lem (wide_means entries p))
      go false p true i b q c s d t = rw (p, i) (too_many (fine_means entries p) (ltb-true 201 count i))
      go false p false i true q c s d t = rw (p, i, q) (too_long_lem (fine_means entries p) (bytes_meant entries p) (ltb-true 1008 size q))
      go false p false i false q true s d t =
          let h : lowest < 10 = ltb-true lowest 10 s in
          let held : Condition entries lowest place = named entries place (low.inside h) lowest (low.holds h) in
          let r = named_place entries held in
          rw (p, i, q, s)
          (refuses {refusal = refusal_of lowest place} (fine_means entries p) (ltb-false 201 count i) (bytes_meant entries p) (ltb-false 1008 size q) (rw (r.0, r.1) held)
          (λ m j l c. both_ways (tested entries c) (low.lower m j (rw r.0 at l) (inside entries c)))
          (λ j l c. both_ways (tested entries (rw r.0 at c)) (low.earlier h j (rw r.1 at l))))
      go false p false i false q false s true t =
          rw (p, i, q, s, t)
          (no_room (fine_means entries p) (ltb-false 201 count i) (bytes_meant entries p) (ltb-false 1008 size q) (none s) (ltb-true room size t))
      go false p false i false q false s false t =
          rw (p, i, q, s, t)
          (accepts (fine_means entries p) (ltb-false 201 count i) (bytes_meant entries p) (ltb-false 1008 size q) (none s) (ltb-false room size t))

  -- AND NO OTHER ANSWER HAS IT, nor does another content of the buffer.
  none_lowest : ((m k : ℕ) → Condition entries m k → ⊥) → 10 ≡ lowest
  none_lowest none =
      lowest_number_lem (applies_to entries) 10 (length entries) 10 0
      (record {
        within = omega arith;
        lower = λ m j l h. false_unless (applies_to entries m j) (λ t. none m j (named entries j h m t));
        inside = λ h. absurd (omega arith);
        holds = λ h. absurd (omega arith);
        earlier = λ h. absurd (omega arith);
      })

  abbrev Only : Written → List ℕ → Type 0
  Only w new = (w ≡ written) × (new ≡ content_after written (loop_bytes entries) old)

  refused : {r : Refusal} → written ≡ Err r → Only (Err r) old
  refused e = (sym e, sym (ap (λ (w : Written). content_after w (loop_bytes entries) old) e))

  pub answer_only : {w : Written} {new : List ℕ} → Answers count array old w new → Only w new
  answer_only (too_wide_lem s) = refused (rw (wide_test entries s))
  answer_only (too_many each h) = refused (rw (fine_test entries each, lt-ltb 201 count h))
  answer_only (too_long_lem each bytes h) =
      let large : 1008 < size = rw (bytes_only bytes) at h in
      refused (rw (fine_test entries each, either_right (ltb 201 count) (ltb 1008 size) (lt-ltb 1008 size large)))
  answer_only (refuses {refusal = refusal} each few bytes long at-k lower earlier) =
      let n : ℕ = number_of refusal in
      let k : ℕ = place_of refusal in
      let short : size ≤ 1008 = rw (bytes_only bytes) at long in
      let here : k < length entries = inside entries at-k in
      let found : Lowest (applies_to entries) 10 (length entries) n k =
      record {
        within = omega (arith, numbers entries at-k);
        lower = λ m j l h. false_unless (applies_to entries m j) (λ t. lower m j l (named entries j h m t));
        inside = λ h. here;
        holds = λ h. tested entries at-k;
        earlier = λ h j l. false_unless (applies_to entries n j) (λ t. earlier j l (named entries j (omega arith) n t));
      } in
      let is_lowest : n ≡ lowest = lowest_number_lem (applies_to entries) 10 (length entries) n k found in
      let is_place : k ≡ earliest_place (applies_to entries) n (length entries) =
      earliest_place_lem (applies_to entries) 10 (length entries) n k found (numbers entries at-k) in
      refused
      (rw (fine_test entries each, le-ltb 201 count few, le-ltb 1008 size short, ← is_lowest, lt-ltb n 10 (numbers entries at-k), ← is_place)
      (ap (λ (r : Refusal). Err r) (named_refusal refusal (numbers entries at-k))))
  answer_only (no_room each few bytes long none h) =
      let short : size ≤ 1008 = rw (bytes_only bytes) at long in
      let large : room < size = rw (bytes_only bytes) at h in
      refused (rw (fine_test entries each, le-ltb 201 count few, le-ltb 1008 size short, ← none_lowest none, lt-ltb room size large))
  answer_only (accepts {bytes} each few is-bytes long none h) =
      let same : bytes ≡ loop_bytes entries = bytes_only is-bytes in
      let short : size ≤ 1008 = rw same at long in
      let enough : size ≤ room = rw same at h in
      let e : written ≡ Ok size =
      rw (fine_test entries each, le-ltb 201 count few, le-ltb 1008 size short, ← none_lowest none, le-ltb room size enough) in (
        ap (λ (l : List ℕ). Ok (length l)) same ∙ sym e,
        ap (λ (l : List ℕ). l ++ drop (length l) old) same ∙ sym (ap (λ (w : Written). content_after w (loop_bytes entries) old) e),
      )
