-- THE WRITER'S VERDICT AND THE READER'S, of the same entries: `given`, as they are to be written, and `seen`, as they are read again. Each
-- number that applies in reading applies in writing; and what applies in writing applies in reading, but for a record on a stream type that
-- the 2015 reading does not know, and for an implied mark that isn't what the rule gives.
-- Assumes nothing.
use Rattle.std.specs.Prelude.{ℕ, ◌-◌, ◌≤◌, ◌<◌, ◌≡◌, refl, Bool, true, false, cond, not, ◌&&◌, List, map, eqb, length, get_or, take, replicate}
use Rattle.std.proofs.Common.{sym, ◌∙◌, ap, ap₂, ⊎_elim, arith, length-take-le, take_at}
use Rattle.std.proofs.Math.Bool.{and-true}
use Rattle.std.proofs.lemmas.Bool.{not-true}
use Rattle.combinators.specs.Below.{some_at, some_which, some_same}
use Rattle.combinators.specs.Bools.{both_left, both_right, both_ways, neither_left, neither_right, either_which, apart, false_unless}
use Rattle.combinators.specs.Lists.{Nth, get_d_nth, nth_map, get_d_map, any, any_false, handled}
use Rattle.combinators.specs.Lowest.{Lowest}
use Rattle.combinators.specs.Padding.{pad_to}
use Rattle.vocabulary.specs.declared.LayerIndex.{LayerIndex}
use Rattle.vocabulary.specs.declared.stream_types.Reading.TheVariants.{Edition2015}
use Rattle.vocabulary.specs.StreamTypes.{known}
use Rattle.records.specs.declared.Record.{Record}
use Rattle.records.specs.declared.Record.TheVariants.{NoRecord, Hierarchy, Extension, Implied}
use Rattle.extension.specs.Extension.{no_layer}
use Rattle.records.specs.Records.{is_layer, index_of, plain, record_tables}
use Rattle.implied.specs.Rule.{given as given_by}
use Rattle.implied.specs.Marking.{with_mark}
use Rattle.judging.specs.Judging.{same_index, type_not_allowed, wrong_flags, wrong_list, wrong_embedded}
use Rattle.judging.specs.Meaning.{has_descriptor, unknown_type}
use Rattle.judging.proofs.Meant.{refusal_6, implied_sound}
use Rattle.loop_entries.specs.declared.Entry.{Entry}
use Rattle.loop_entries.specs.declared.Stream.{Stream}
use Rattle.loop_entries.specs.Entries.{no_stream, blank_entry}
use Rattle.loop_faults.specs.Conditions.{stream_at, pid_at, type_at, record_at, repeated_pid, repeated_index, conditions, applies}
use Rattle.syntax.specs.Filled.{too_wide_in}
use Rattle.loop_writer.specs.Layout.{too_wide}
use Rattle.loop_writer.proofs.Entries.{record_fit}
use Rattle.extension.proofs.Widths.{count_small}
use Rattle.loop_writer.specs.Verdict.{stream_for, applies_to, pair_for, given_to}
use Rattle.loop_round_trip.specs.ReadBack.{on_unknown_type, wrong_mark, writers_own_six, layers_kept, with_record, normal, without_mark, without_record, remarked, read_as, read_again, Typed}
use Rattle.loop_round_trip.proofs.ReadBack.{unknown_view, pair_again, typed_at}

-- ONE ENTRY, by whether its type is known
module _ (pair : Bool) (e : Entry) where
  by_type : (P : Entry → Type 0) → (known Edition2015 e.stream_type ≡ true → P (with_record (remarked pair e) e))
      → (known Edition2015 e.stream_type ≡ false → P (without_record e)) → P (read_as pair e)
  by_type P f g = go (known Edition2015 e.stream_type) refl
    where
      go : (b : Bool) → known Edition2015 e.stream_type ≡ b → P (read_as pair e)
      go true p = rw p (f p)
      go false p = rw p (g p)

  same_pid : (read_as pair e).pid ≡ e.pid
  same_pid = by_type (λ x. x.pid ≡ e.pid) (λ p. refl) (λ p. refl)

  same_type : (read_as pair e).stream_type ≡ e.stream_type
  same_type = by_type (λ x. x.stream_type ≡ e.stream_type) (λ p. refl) (λ p. refl)

  -- no mark is given to a type that is not known
  none_given : known Edition2015 e.stream_type ≡ false → given_to pair e ≡ false
  none_given p = ap (λ (b : Bool). b && pair) (unknown_view e.stream_type p)

-- A RECORD AND ITS MARK. A mark that is what the rule gives comes back.
abbrev mark_back : Bool → Record → Record
mark_back is_given r = cond is_given (with_mark (without_mark r)) (without_mark r)

mark_back_lem : (is_given : Bool) (r : Record) → wrong_mark is_given r ≡ false → mark_back is_given r ≡ r
mark_back_lem true NoRecord p = apart (sym p)
mark_back_lem true (Hierarchy h) p = refl
mark_back_lem true (Extension x) p = refl
mark_back_lem true Implied p = refl
mark_back_lem false NoRecord p = refl
mark_back_lem false (Hierarchy h) p = refl
mark_back_lem false (Extension x) p = refl
mark_back_lem false Implied p = apart (sym p)

-- one that isn't is 6
mark_refused : (is_given : Bool) (t : ℕ) (r : Record) → wrong_mark is_given r ≡ true → type_not_allowed is_given t r ≡ true
mark_refused is_given t NoRecord p = p
mark_refused is_given t (Hierarchy h) p = apart p
mark_refused is_given t (Extension x) p = apart p
mark_refused is_given t Implied p = p

-- what is read with the marks that the rule gives has no 6 for them
type_back : (is_given : Bool) (t : ℕ) (r : Record) → type_not_allowed is_given t (mark_back is_given r) ≡ true → type_not_allowed is_given t r ≡ true
type_back true t NoRecord p = apart p
type_back true t (Hierarchy h) p = p
type_back true t (Extension x) p = p
type_back true t Implied p = apart p
type_back false t NoRecord p = apart p
type_back false t (Hierarchy h) p = p
type_back false t (Extension x) p = p
type_back false t Implied p = apart p

-- nor does another test hold of it that holds neither of a mark nor without a record
test_back : (test : Record → Bool) → test Implied ≡ false → test NoRecord ≡ false → (is_given : Bool) (r : Record) → test (mark_back is_given r) ≡ true → test r ≡ true
test_back test m n true NoRecord p = both_ways p m
test_back test m n true (Hierarchy h) p = p
test_back test m n true (Extension x) p = p
test_back test m n true Implied p = p
test_back test m n false NoRecord p = p
test_back test m n false (Hierarchy h) p = p
test_back test m n false (Extension x) p = p
test_back test m n false Implied p = both_ways p n

bare : (r : Record) → has_descriptor r ≡ false → wrong_mark false r ≡ false → r ≡ NoRecord
bare NoRecord p q = refl
bare (Hierarchy h) p q = apart (sym p)
bare (Extension x) p q = apart (sym p)
bare Implied p q = apart (sym q)

-- unless the writer alone refuses it with 6, an entry is read as it was given
pub read_normal : (pair : Bool) (e : Entry) → writers_own_six pair e ≡ false → read_as pair e ≡ normal e
read_normal pair e u =
    let known_or : on_unknown_type e ≡ false = neither_left (on_unknown_type e) (wrong_mark (given_to pair e) e.«record») u in
    let right : wrong_mark (given_to pair e) e.«record» ≡ false = neither_right (on_unknown_type e) (wrong_mark (given_to pair e) e.«record») u in
    by_type pair e (λ x. x ≡ normal e) (λ p. ap (λ (r : Record). with_record r e) (mark_back_lem (given_to pair e) e.«record» right))
    (λ p.
    let plain_type : has_descriptor e.«record» ≡ false = sym (and-true (has_descriptor e.«record»)) ∙ (rw p at known_or) in
    let none : e.«record» ≡ NoRecord =
    bare e.«record» plain_type (sym (ap (λ (b : Bool). wrong_mark b e.«record») (none_given pair e p)) ∙ right) in
    ap (λ (r : Record). record { stream_type = e.stream_type; pid = e.pid; «record» = r; embedded = pad_to 63 no_layer (layers_kept r e.embedded) }) (sym none))

-- the array beyond the count is not judged
same_named : (t : ℕ) (r : Record) (layers : List LayerIndex) → length layers ≡ 63 → any too_wide_in (record_tables r layers) ≡ false
    → wrong_embedded t r (pad_to 63 no_layer (layers_kept r layers)) ≡ wrong_embedded t r layers
same_named t NoRecord layers room fit = refl
same_named t (Hierarchy h) layers room fit = refl
same_named t (Extension x) layers room fit =
    let n : ℕ = x.num_embedded_layers in
    let long : length (take n layers) ≡ n = length-take-le n layers (omega (arith, count_small x layers fit)) in
    ap (λ (l : List LayerIndex). wrong_list x.layer_index.0 (map plain l)) (take_at (take n layers) (replicate (63 - length (take n layers)) no_layer) n long)
same_named t Implied layers room fit = refl

same_index_lem : {t t' u u' : ℕ} {a a' b b' : Record} → t ≡ t' → a ≡ a' → u ≡ u' → b ≡ b' → same_index t a u b ≡ same_index t' a' u' b'
same_index_lem {t} {t'} {u} {u'} {a} {a'} {b} {b'} p q r s =
    ap₂ (λ (x : ℕ) (y : Record). same_index x y u b) p q ∙ ap₂ (λ (x : ℕ) (y : Record). same_index t' a' x y) r s

-- ALL ENTRIES
module _ (es : List Entry) (typed : Typed es) (fit : any too_wide es ≡ false) where
  abbrev pair : Bool
  pair = pair_for es

  abbrev given : List Stream
  given = map stream_for es

  abbrev seen : List Stream
  seen = map stream_for (read_again es)

  abbrev pub entry_at : ℕ → Entry
  entry_at k = get_or es k blank_entry

  -- the mark of an entry is what the rule gives
  abbrev RightMark : ℕ → Type 0
  RightMark k = wrong_mark (given_to pair (entry_at k)) (entry_at k).«record» ≡ false

  module _ {k : ℕ} (h : k < length es) where
    there_is : Nth es k (entry_at k)
    there_is = get_d_nth es k blank_entry h

    given_at : stream_at given k ≡ stream_for (entry_at k)
    given_at = get_d_map stream_for no_stream there_is

    seen_at : stream_at seen k ≡ stream_for (read_as pair (entry_at k))
    seen_at = get_d_map stream_for no_stream (nth_map (read_as pair) there_is)

    named_alike : wrong_embedded (entry_at k).stream_type (entry_at k).«record» (pad_to 63 no_layer (layers_kept (entry_at k).«record» (entry_at k).embedded))
        ≡ wrong_embedded (entry_at k).stream_type (entry_at k).«record» (entry_at k).embedded
    named_alike =
        same_named (entry_at k).stream_type (entry_at k).«record» (entry_at k).embedded (typed_at typed there_is)
        (record_fit (entry_at k) (any_false too_wide fit there_is))

    pid_alike : pid_at seen k ≡ pid_at given k
    pid_alike = ap (λ (s : Stream). s.pid) seen_at ∙ same_pid pair (entry_at k) ∙ sym (ap (λ (s : Stream). s.pid) given_at)

    type_alike : type_at seen k ≡ type_at given k
    type_alike = ap (λ (s : Stream). s.stream_type) seen_at ∙ same_type pair (entry_at k) ∙ sym (ap (λ (s : Stream). s.stream_type) given_at)

    -- a layer that is read was given, where its mark is what the rule gives
    layer_given : RightMark k → is_layer (record_at seen k) ≡ true → record_at seen k ≡ record_at given k
    layer_given right l =
        ap (λ (s : Stream). s.seen.«record») seen_at
        ∙ by_type pair (entry_at k) (λ x. is_layer x.«record» ≡ true → x.«record» ≡ (entry_at k).«record»)
        (λ p q. mark_back_lem (given_to pair (entry_at k)) (entry_at k).«record» right) (λ p q. apart q)
        (sym (ap (λ (s : Stream). is_layer s.seen.«record») seen_at) ∙ l)
        ∙ sym (ap (λ (s : Stream). s.seen.«record») given_at)

    -- and a record that was given is read, unless the writer alone refuses it
    record_read : writers_own_six pair (entry_at k) ≡ false → record_at seen k ≡ record_at given k
    record_read u =
        ap (λ (s : Stream). s.seen.«record») seen_at ∙ ap (λ (x : Entry). x.«record») (read_normal pair (entry_at k) u)
        ∙ sym (ap (λ (s : Stream). s.seen.«record») given_at)

  pids_alike : {k : ℕ} → k < length es → repeated_pid seen k ≡ repeated_pid given k
  pids_alike {k} h =
      some_same (λ j. eqb (pid_at seen j) (pid_at seen k)) (λ j. eqb (pid_at given j) (pid_at given k)) k
      (λ j l. ap₂ eqb (pid_alike (omega arith)) (pid_alike h))

  -- whether two streams are layers of the same index
  abbrev same_at : List Stream → ℕ → ℕ → Bool
  same_at streams k j = same_index (type_at streams j) (record_at streams j) (type_at streams k) (record_at streams k)

  index_given : {k : ℕ} → k < length es → ((j : ℕ) → j ≤ k → RightMark j) → repeated_index seen k ≡ true → repeated_index given k ≡ true
  index_given {k} h right e = go (some_which (same_at seen k) k e)
    where
      go : (j : ℕ) × (j < k) × (same_at seen k j ≡ true) → repeated_index given k ≡ true
      go (j, l, same) =
          let a : Record = record_at seen j in
          let b : Record = record_at seen k in
          let equal : Bool = eqb (index_of (type_at seen j) a) (index_of (type_at seen k) b) in
          let layers : (is_layer a && is_layer b) ≡ true = both_left (is_layer a && is_layer b) equal same in
          some_at (same_at given k) k j l
          (sym
          (same_index_lem (type_alike {k = j} (omega arith)) (layer_given {k = j} (omega arith) (right j (omega arith)) (both_left (is_layer a) (is_layer b) layers))
          (type_alike h) (layer_given h (right k (omega arith)) (both_right (is_layer a) (is_layer b) layers)))
          ∙ same)

  index_read : {k : ℕ} → k < length es → ((j : ℕ) → j ≤ k → writers_own_six pair (entry_at j) ≡ false) → repeated_index given k ≡ repeated_index seen k
  index_read {k} h u =
      some_same (same_at given k) (same_at seen k) k
      (λ j l. sym
      (same_index_lem (type_alike {k = j} (omega arith)) (record_read {k = j} (omega arith) (u j (omega arith))) (type_alike h) (record_read h (u k (omega arith)))))

  -- the conditions at an entry, as it was given and as it is read
  abbrev given_tests : ℕ → List Bool
  given_tests k = conditions (given_to pair (entry_at k)) (repeated_pid given k) (repeated_index given k) (stream_for (entry_at k))

  abbrev seen_tests : ℕ → List Bool
  seen_tests k = conditions (given_to pair (entry_at k)) (repeated_pid seen k) (repeated_index seen k) (stream_for (read_as pair (entry_at k)))

  given_tests_lem : {k : ℕ} → k < length es → (n : ℕ) → applies given n k ≡ get_or (given_tests k) n false
  given_tests_lem {k} h n =
      ap (λ (s : Stream). get_or (conditions (given_by pair s.stream_type) (repeated_pid given k) (repeated_index given k) s) n false) (given_at h)

  seen_tests_lem : {k : ℕ} → k < length es → (n : ℕ) → applies seen n k ≡ get_or (seen_tests k) n false
  seen_tests_lem {k} h n =
      ap (λ (b : Bool). get_or (conditions (given_by b (type_at seen k)) (repeated_pid seen k) (repeated_index seen k) (stream_at seen k)) n false) (pair_again es)
      ∙ ap (λ (s : Stream). get_or (conditions (given_by pair s.stream_type) (repeated_pid seen k) (repeated_index seen k) s) n false) (seen_at h)
      ∙ ap (λ (t : ℕ). get_or (conditions (given_by pair t) (repeated_pid seen k) (repeated_index seen k) (stream_for (read_as pair (entry_at k)))) n false)
      (same_type pair (entry_at k))

  -- WHAT APPLIES IN READING APPLIES IN WRITING: 8 where the marks up to there are what the rule gives, the others in any case.
  abbrev MarkedUpTo : ℕ → ℕ → Type 0
  MarkedUpTo n k = n ≡ 8 → (j : ℕ) → j ≤ k → RightMark j

  reads_writes : (n k : ℕ) → k < length es → MarkedUpTo n k → applies seen n k ≡ true → applies given n k ≡ true
  reads_writes n k h right t =
      given_tests_lem h n
      ∙ handled (λ m. MarkedUpTo m k → get_or (given_tests k) m false ≡ true) (seen_tests k)
      (apart, (apart, (apart, ((λ p x. sym (pids_alike h) ∙ p), (apart, (apart, (six, (seven, ((λ p x. index_given h (x refl) p), (nine, tt)))))))))) n
      (sym (seen_tests_lem h n) ∙ t) right
    where
      e : Entry
      e = entry_at k

      six : type_not_allowed (given_to pair e) (read_as pair e).stream_type (read_as pair e).«record» ≡ true → MarkedUpTo 6 k
          → type_not_allowed (given_to pair e) e.stream_type e.«record» ≡ true
      six q x =
          by_type pair e
          (λ y. type_not_allowed (given_to pair e) y.stream_type y.«record» ≡ true → type_not_allowed (given_to pair e) e.stream_type e.«record» ≡ true)
          (λ p. type_back (given_to pair e) e.stream_type e.«record») (λ p g. both_ways g (none_given pair e p)) q

      seven : wrong_flags (read_as pair e).«record» ≡ true → MarkedUpTo 7 k → wrong_flags e.«record» ≡ true
      seven q x =
          by_type pair e (λ y. wrong_flags y.«record» ≡ true → wrong_flags e.«record» ≡ true)
          (λ p. test_back wrong_flags refl refl (given_to pair e) e.«record») (λ p g. apart g) q

      nine : wrong_embedded (read_as pair e).stream_type (read_as pair e).«record» (read_as pair e).embedded ≡ true → MarkedUpTo 9 k
          → wrong_embedded e.stream_type e.«record» e.embedded ≡ true
      nine q x =
          by_type pair e
          (λ y. wrong_embedded y.stream_type y.«record» y.embedded ≡ true → wrong_embedded e.stream_type e.«record» e.embedded ≡ true)
          (λ p g. sym (named_alike h) ∙ test_back (λ r. wrong_embedded e.stream_type r kept) (implied_sound e.stream_type kept) refl (given_to pair e) e.«record» g)
          (λ p g. apart g) q
        where
          kept : List LayerIndex
          kept = pad_to 63 no_layer (layers_kept e.«record» e.embedded)

  -- WHAT APPLIES IN WRITING APPLIES IN READING: 3 in any case, 6 unless it is the writer's alone, 7 to 9 where no 6 up to there is.
  abbrev pub NotBySix : ℕ → ℕ → Type 0
  NotBySix n k = n ≡ 6 → writers_own_six pair (entry_at k) ≡ false

  abbrev KnownUpTo : ℕ → ℕ → Type 0
  KnownUpTo n k = 6 < n → (j : ℕ) → j ≤ k → writers_own_six pair (entry_at j) ≡ false

  writes_reads : (n k : ℕ) → k < length es → NotBySix n k → KnownUpTo n k → applies given n k ≡ true → applies seen n k ≡ true
  writes_reads n k h u v t =
      seen_tests_lem h n
      ∙ handled
      (λ m. NotBySix m k → KnownUpTo m k → get_or (seen_tests k) m false ≡ true)
      (given_tests k)
      (apart, (apart, (apart, ((λ p x y. pids_alike h ∙ p), (apart, (apart, (six, (seven, (eight, (nine, tt)))))))))) n
      (sym (given_tests_lem h n) ∙ t) u v
    where
      e : Entry
      e = entry_at k

      six : type_not_allowed (given_to pair e) e.stream_type e.«record» ≡ true → NotBySix 6 k → KnownUpTo 6 k
          → type_not_allowed (given_to pair e) (read_as pair e).stream_type (read_as pair e).«record» ≡ true
      six p x y = rw (read_normal pair e (x refl)) p

      seven : wrong_flags e.«record» ≡ true → NotBySix 7 k → KnownUpTo 7 k
          → wrong_flags (read_as pair e).«record» ≡ true
      seven p x y = rw (read_normal pair e (y (omega arith) k (omega arith))) p

      eight : repeated_index given k ≡ true → NotBySix 8 k → KnownUpTo 8 k
          → repeated_index seen k ≡ true
      eight p x y = sym (index_read h (y (omega arith))) ∙ p

      nine : wrong_embedded e.stream_type e.«record» e.embedded ≡ true → NotBySix 9 k → KnownUpTo 9 k
          → wrong_embedded (read_as pair e).stream_type (read_as pair e).«record» (read_as pair e).embedded ≡ true
      nine p x y = rw (read_normal pair e (y (omega arith) k (omega arith))) (named_alike h ∙ p)

  -- THE LOWEST NUMBER IS THE SAME.
  not_read : (n k : ℕ) → k < length es → MarkedUpTo n k → applies_to es n k ≡ false → applies seen n k ≡ false
  not_read n k h right f = false_unless (applies seen n k) (λ t. both_ways (reads_writes n k h right t) f)

  -- 6 applies to no entry, so that no record stands on an unknown type, and each mark is what the rule gives
  all_known : (k : ℕ) → k < length es → applies_to es 6 k ≡ false → writers_own_six pair (entry_at k) ≡ false
  all_known k h f = false_unless (writers_own_six pair e) (λ u. both_ways (refused u) allowed)
    where
      e : Entry
      e = entry_at k

      allowed : type_not_allowed (given_to pair e) e.stream_type e.«record» ≡ false
      allowed =
          sym (ap (λ (s : Stream). type_not_allowed (given_by pair s.stream_type) s.stream_type s.seen.«record») (given_at h)) ∙ f

      refused : writers_own_six pair e ≡ true → type_not_allowed (given_to pair e) e.stream_type e.«record» ≡ true
      refused u =
          let there : Bool = has_descriptor e.«record» in
          let unknown : Bool = not (known Edition2015 e.stream_type) in
          ⊎_elim
          (λ p. (refusal_6 (given_to pair e) e.stream_type e.«record»).1
          (unknown_type (both_left there unknown p) (not-true (known Edition2015 e.stream_type) (both_right there unknown p))))
          (mark_refused (given_to pair e) e.stream_type e.«record»)
          (either_which (on_unknown_type e) (wrong_mark (given_to pair e) e.«record») u)

  module _ (number place : ℕ) (lowest : Lowest (applies_to es) 10 (length es) number place) where
    -- past 6 each mark is what the rule gives
    marked_past : (n k : ℕ) → n ≤ number → k < length es → MarkedUpTo n k
    marked_past n k l h is-eight j i =
        let e : Entry = entry_at j in
        neither_right (on_unknown_type e) (wrong_mark (given_to pair e) e.«record») (all_known j (omega arith) (lowest.lower 6 j (omega arith) (omega arith)))

    pub same_lowest : NotBySix number place → Lowest (applies seen) 10 (length es) number place
    same_lowest u =
        record {
          within = lowest.within;
          lower = λ n k l h. not_read n k h (marked_past n k (omega arith) h) (lowest.lower n k l h);
          inside = lowest.inside;
          holds = λ l. writes_reads number place (lowest.inside l) u
              (λ m j i. (let p = lowest.inside l in
              let within : j < length es = omega arith in
              all_known j within (lowest.lower 6 j m within)))
              (lowest.holds l);
          earlier = λ l k h.
              let within : k < length es = (let p = lowest.inside l in omega arith) in
              not_read number k within (marked_past number k (omega arith) within) (lowest.earlier l k h);
        }

    pub none_unknown : 10 ≤ number → (k : ℕ) → k < length es → writers_own_six pair (entry_at k) ≡ false
    none_unknown h k l = all_known k l (lowest.lower 6 k (omega arith) l)
