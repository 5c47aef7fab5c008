-- The laws that join the answer for a recording to what it means, both ways.
-- Assumes nothing.
use Rattle.std.specs.Prelude.{Err, Ok}
use Prim.Native.Nat.{ℕ, suc, ◌≤◌, ◌<◌}
use mathlib.Core.Path.{◌≡◌, refl, sym, ap, ap₂, ◌∙◌, subst}
use mathlib.Core.Bool.{Bool, true, false, cond, ◌&&◌}
use mathlib.Core.List.{List, [], ◌∷◌, ◌++◌}
use native.Mathlib.Numerals.{add-one}
use native.Mathlib.Omega.{arith}
use borrow.Author.Tests.{ltb-true, ltb-false, leb-true, lt-ltb, le-ltb, eqb-true, eqb-false, eq-eqb}
use lib.Dec.{eqb, leb, ltb}
use lib.ListN.{length, get_or, drop, length-drop}
use Rattle.combinators.specs.Bools.{apart, both_left, both_right, both_ways, false_unless}
use Rattle.combinators.specs.Lists.{Nth, nth_inside, get_d_nth, next}
use Rattle.combinators.specs.Lowest.{Lowest, earliest_place}
use Rattle.combinators.proofs.Lowest.{lowest_number_lem, earliest_place_lem}
use Rattle.framing.specs.Pieces.{Item, whole, broken, Cuts}
use Rattle.framing.proofs.Pieces.{cut_cuts, cuts_unique}
use Rattle.vocabulary.specs.declared.refusal.Refusal.{Refusal}
use Rattle.vocabulary.specs.declared.refusal.Refusal.TheVariants.{LoopTooLong, DoesNotFit, RepeatedPid, WrongLength, SecondRecord, TypeNotAllowed, WrongFlags, RepeatedLayerIndex, WrongEmbeddedIndex, NoSuchLayer, EmbeddedLayerAbsent, OutOfRange, TimeOrderBroken, Unpaired, UsedTwice, NoRoom, SpanTooWide, NotVideoHeader, NoPts, FieldsDoNotFit, WrongMarker, PtsBeforeDts, TooWide, LostSync, CounterGap, OutsidePacket, Scrambled, PointsDoNotFit, ReservedEsCount, UnknownReference, NotStereoSet, WrongMvcExtension, RangesMeet}
use Rattle.vocabulary.specs.Refusals.{number_of, place_of}
use Rattle.packets.specs.Reading.{packet_bytes}
use Rattle.scanning.specs.declared.events.Row.{Row}
use Rattle.scanning.specs.declared.events.Event.{Event}
use Rattle.scanning.specs.declared.events.Event.TheVariants.{Nothing, Fault, NotRead, Unit}
use Rattle.unit_starts.specs.declared.Found.{Found}
use Rattle.scanning.specs.Events.{packets_in, none_yet, event_of, lasts_after}
use Rattle.unit_starts.specs.Finding.{row_in, rows_from, rows_in, found_in}
use Rattle.unit_starts.proofs.Running.{rows_counted}
use Rattle.recordings.specs.Reading.{fault_of, header_refusal, answer_of}
use Rattle.recordings.specs.Meaning.{Gives, last_part, lost_sync_lem, other_pid, on_layer_lem, RowsFrom, ended, without, with_row, Clear, Readable, Answers, faulty, not_read, too_many, all_rows}
use Rattle.recordings.specs.Answer.{Recording}
use Rattle.recordings.specs.declared.RecordingFault.TheVariants.{Faulty, NotRead as Unread, TooManyRows}
use Rattle.recordings.proofs.Answering.{answer_by_lem}
use Rattle.recordings.proofs.Meant.{lasts_at, lasts_next, gives_meant, gives_only}
use Rattle.recordings.proofs.Answered.{sized, fault_is, refusal_is, in_range, event_in_range, event_here, faults, refusals, Low, low_found}

-- ---- numbers and names

fault_number : (n k : ℕ) → 30 ≤ n → n < 34 → number_of (fault_of n k) ≡ n
fault_number n k low high = go (eqb n 30) (eqb n 31) (eqb n 32) refl refl refl
  where
    go : (a b c : Bool) → eqb n 30 ≡ a → eqb n 31 ≡ b → eqb n 32 ≡ c
        → number_of (cond a (LostSync k) (cond b (CounterGap k) (cond c (OutsidePacket k) (Scrambled k)))) ≡ n
    go true b c p q r = sym (eqb-true n 30 p)
    go false true c p q r = sym (eqb-true n 31 q)
    go false false true p q r = sym (eqb-true n 32 r)
    go false false false p q r = omega (arith, eqb-false n 30 p, eqb-false n 31 q, eqb-false n 32 r)

fault_place : (n k : ℕ) → place_of (fault_of n k) ≡ k
fault_place n k = go (eqb n 30) (eqb n 31) (eqb n 32)
  where
    go : (a b c : Bool) → place_of (cond a (LostSync k) (cond b (CounterGap k) (cond c (OutsidePacket k) (Scrambled k)))) ≡ k
    go true b c = refl
    go false true c = refl
    go false false true = refl
    go false false false = refl

named_fault : (r : Refusal) → leb 30 (number_of r) && ltb (number_of r) 34 ≡ true → fault_of (number_of r) (place_of r) ≡ r
named_fault LoopTooLong e = apart e
named_fault (DoesNotFit k) e = apart e
named_fault (RepeatedPid k) e = apart e
named_fault (WrongLength k) e = apart e
named_fault (SecondRecord k) e = apart e
named_fault (TypeNotAllowed k) e = apart e
named_fault (WrongFlags k) e = apart e
named_fault (RepeatedLayerIndex k) e = apart e
named_fault (WrongEmbeddedIndex k) e = apart e
named_fault NoSuchLayer e = apart e
named_fault (EmbeddedLayerAbsent index) e = apart e
named_fault (OutOfRange k) e = apart e
named_fault (TimeOrderBroken k) e = apart e
named_fault (Unpaired k) e = apart e
named_fault (UsedTwice k) e = apart e
named_fault NoRoom e = apart e
named_fault SpanTooWide e = apart e
named_fault NotVideoHeader e = apart e
named_fault NoPts e = apart e
named_fault FieldsDoNotFit e = apart e
named_fault WrongMarker e = apart e
named_fault PtsBeforeDts e = apart e
named_fault TooWide e = apart e
named_fault (LostSync k) e = refl
named_fault (CounterGap k) e = refl
named_fault (OutsidePacket k) e = refl
named_fault (Scrambled k) e = refl
named_fault PointsDoNotFit e = apart e
named_fault ReservedEsCount e = apart e
named_fault UnknownReference e = apart e
named_fault NotStereoSet e = apart e
named_fault WrongMvcExtension e = apart e
named_fault RangesMeet e = apart e

named_header : (r : Refusal) → leb 20 (number_of r) && ltb (number_of r) 25 ≡ true → header_refusal (number_of r) ≡ r
named_header LoopTooLong e = apart e
named_header (DoesNotFit k) e = apart e
named_header (RepeatedPid k) e = apart e
named_header (WrongLength k) e = apart e
named_header (SecondRecord k) e = apart e
named_header (TypeNotAllowed k) e = apart e
named_header (WrongFlags k) e = apart e
named_header (RepeatedLayerIndex k) e = apart e
named_header (WrongEmbeddedIndex k) e = apart e
named_header NoSuchLayer e = apart e
named_header (EmbeddedLayerAbsent index) e = apart e
named_header (OutOfRange k) e = apart e
named_header (TimeOrderBroken k) e = apart e
named_header (Unpaired k) e = apart e
named_header (UsedTwice k) e = apart e
named_header NoRoom e = apart e
named_header SpanTooWide e = apart e
named_header NotVideoHeader e = refl
named_header NoPts e = refl
named_header FieldsDoNotFit e = refl
named_header WrongMarker e = refl
named_header PtsBeforeDts e = refl
named_header TooWide e = apart e
named_header (LostSync k) e = apart e
named_header (CounterGap k) e = apart e
named_header (OutsidePacket k) e = apart e
named_header (Scrambled k) e = apart e
named_header PointsDoNotFit e = apart e
named_header ReservedEsCount e = apart e
named_header UnknownReference e = apart e
named_header NotStereoSet e = apart e
named_header WrongMvcExtension e = apart e
named_header RangesMeet e = apart e

is_fault : (n : ℕ) (event : Event) → fault_is n event ≡ true → event ≡ Fault n
is_fault n Nothing e = apart e
is_fault n (Fault given) e = ap Fault (eqb-true given n e)
is_fault n (NotRead refusal) e = apart e
is_fault n (Unit row) e = apart e

is_refusal : (n : ℕ) (event : Event) → refusal_is n event ≡ true → (r : Refusal) × (event ≡ NotRead r) × (number_of r ≡ n)
is_refusal n Nothing e = apart e
is_refusal n (Fault given) e = apart e
is_refusal n (NotRead refusal) e = (refusal, refl, eqb-true (number_of refusal) n e)
is_refusal n (Unit row) e = apart e

module _ (table : List ℕ) (packets : List Item) (size : (k : ℕ) (packet rest : List ℕ) → Nth packets k (whole packet rest) → length packet ≡ packet_bytes) where
  inside : {k : ℕ} {event : Event} → Gives table packets k event → k < length packets
  inside (last_part n) = nth_inside n
  inside (lost_sync_lem n l) = nth_inside n
  inside (other_pid n f h) = nth_inside n
  inside (on_layer_lem n f h p s) = nth_inside n

  given_here : (k : ℕ) → k < length packets → Gives table packets k (event_here table packets k)
  given_here k h = gives_meant table packets size k (get_or packets k broken) (get_d_nth packets k broken h)

  only_here : {k : ℕ} {event : Event} → Gives table packets k event → event ≡ event_here table packets k
  only_here {k} g = gives_only table packets size g (get_d_nth packets k broken (inside g))

  -- ---- rows

  rows_meant : (is : List Item) (k : ℕ) → k ≤ length packets → drop k packets ≡ is → RowsFrom table packets k (rows_from table k is (lasts_at table packets k))
  rows_meant [] k h e =
      let left = length-drop k packets in
      let none = ap length e in
      ended {k = k} (omega arith)
  rows_meant (i ∷ is) k h e =
      let n = next packets k i is e in
      let at : Nth packets k i = subst (Nth packets k) (n.here broken) (get_d_nth packets k broken n.inside) in
      subst (λ (l : List (List ℕ)). RowsFrom table packets k (row_in (event_of table k i (lasts_at table packets k)) ++ rows_from table (suc k) is l))
      (lasts_next table at none_yet)
      (go (event_of table k i (lasts_at table packets k)) (gives_meant table packets size k i at)
      (rows_meant is (suc k) n.inside (ap (λ (m : ℕ). drop m packets) (sym (add-one k)) ∙ n.after)))
    where
      go : {rest : List Row} (event : Event) → Gives table packets k event → RowsFrom table packets (suc k) rest → RowsFrom table packets k (row_in event ++ rest)
      go Nothing g later = without g refl later
      go (Fault number) g later = without g refl later
      go (NotRead refusal) g later = without g refl later
      go (Unit row) g later = with_row g later

  rows_only : {k : ℕ} {rows : List Row} → RowsFrom table packets k rows → (is : List Item) → drop k packets ≡ is
      → rows ≡ rows_from table k is (lasts_at table packets k)
  rows_only (ended {k} e) [] d = refl
  rows_only (ended {k} e) (i ∷ is) d = absurd (omega (arith, (next packets k i is d).inside))
  rows_only (without {k} {event} g r later) [] d =
      let left = length-drop k packets in
      let none = ap length d in
      absurd (omega (arith, inside g))
  rows_only (without {k} {event} {rows} g r later) (i ∷ is) d =
      let n = next packets k i is d in
      let at : Nth packets k i = subst (Nth packets k) (n.here broken) (get_d_nth packets k broken n.inside) in
      rows_only later is (ap (λ (m : ℕ). drop m packets) (sym (add-one k)) ∙ n.after)
      ∙ ap (rows_from table (suc k) is) (lasts_next table at none_yet)
      ∙ ap (λ (l : List Row). l ++ rows_from table (suc k) is (lasts_after table i (lasts_at table packets k))) (sym r ∙ ap row_in (gives_only table packets size g at))
  rows_only (with_row {k} {row} {rows} g later) [] d =
      let left = length-drop k packets in
      let none = ap length d in
      absurd (omega (arith, inside g))
  rows_only (with_row {k} {row} {rows} g later) (i ∷ is) d =
      let n = next packets k i is d in
      let at : Nth packets k i = subst (Nth packets k) (n.here broken) (get_d_nth packets k broken n.inside) in
      ap (λ (l : List Row). row ∷ l)
      (rows_only later is (ap (λ (m : ℕ). drop m packets) (sym (add-one k)) ∙ n.after) ∙ ap (rows_from table (suc k) is) (lasts_next table at none_yet))
      ∙ ap (λ (e : Event). row_in e ++ rows_from table (suc k) is (lasts_after table i (lasts_at table packets k))) (gives_only table packets size g at)

  -- ---- faults and refusals, by what the walk keeps

  fault_true : {n k : ℕ} → Gives table packets k (Fault n) → faults table packets n k ≡ true
  fault_true {n} g = ap (fault_is n) (sym (only_here g)) ∙ eq-eqb n n refl

  refusal_true : {r : Refusal} {k : ℕ} → Gives table packets k (NotRead r) → refusals table packets (number_of r) k ≡ true
  refusal_true {r} g = ap (refusal_is (number_of r)) (sym (only_here g)) ∙ eq-eqb (number_of r) (number_of r) refl

  fault_given : (n k : ℕ) → k < length packets → faults table packets n k ≡ true → Gives table packets k (Fault n)
  fault_given n k h e = subst (Gives table packets k) (is_fault n (event_here table packets k) e) (given_here k h)

  refusal_given : (n k : ℕ) → k < length packets → refusals table packets n k ≡ true → (r : Refusal) × Gives table packets k (NotRead r) × (number_of r ≡ n)
  refusal_given n k h e =
      let w = is_refusal n (event_here table packets k) e in (w.0, subst (Gives table packets k) w.1 (given_here k h), w.2)

  -- a packet's number is in its range
  fault_range : {n k : ℕ} → Gives table packets k (Fault n) → leb 30 n && ltb n 34 ≡ true
  fault_range {n} {k} g = ap in_range (only_here g) ∙ event_in_range table k (get_or packets k broken) (lasts_at table packets k)

  refusal_range : {r : Refusal} {k : ℕ} → Gives table packets k (NotRead r) → leb 20 (number_of r) && ltb (number_of r) 25 ≡ true
  refusal_range {r} {k} g = ap in_range (only_here g) ∙ event_in_range table k (get_or packets k broken) (lasts_at table packets k)

  module _ (f : Found) (low : Low table packets (length packets) f) where
    clear : 34 ≤ f.fault.number → Clear table packets
    clear h =
        record {
          no_fault = λ n k g. both_ways (fault_true g)
              (low.fault.lower n k (omega (arith, ltb-true n 34 (both_right (leb 30 n) (ltb n 34) (fault_range g)))) (inside g));
        }

    readable : 25 ≤ f.refusal.number → Readable table packets
    readable h =
        record {
          no_refusal = λ r k g. both_ways (refusal_true g)
              (low.refusal.lower (number_of r) k
              (omega (arith, ltb-true (number_of r) 25 (both_right (leb 20 (number_of r)) (ltb (number_of r) 25) (refusal_range g)))) (inside g));
        }

    -- the other way: where the meaning says what is lowest, the walk has kept that
    same_fault : (n k : ℕ) → n < 34 → Gives table packets k (Fault n)
        → ((m j : ℕ) → m < n → Gives table packets j (Fault m) → ⊥) → ((j : ℕ) → j < k → Gives table packets j (Fault n) → ⊥)
        → (f.fault.number ≡ n) × (f.fault.packet ≡ k)
    same_fault n k small g lower earlier =
        let meant : Lowest (faults table packets) 34 (length packets) n k =
        record {
          within = omega arith;
          lower = λ m j h l. false_unless (faults table packets m j) (λ e. lower m j h (fault_given m j l e));
          inside = λ h. inside g;
          holds = λ h. fault_true g;
          earlier = λ h j l. false_unless (faults table packets n j) (λ e. earlier j l (fault_given n j (omega (arith, inside g)) e));
        } in
        let kept = low.fault in
        let same : f.fault.number ≡ n =
        lowest_number_lem (faults table packets) 34 (length packets) f.fault.number f.fault.packet kept
        ∙ sym (lowest_number_lem (faults table packets) 34 (length packets) n k meant) in (
          same,
          earliest_place_lem (faults table packets) 34 (length packets) f.fault.number f.fault.packet kept (omega arith)
              ∙ ap (λ (m : ℕ). earliest_place (faults table packets) m (length packets)) same
              ∙ sym (earliest_place_lem (faults table packets) 34 (length packets) n k meant small),
        )

    same_refusal : (r : Refusal) (k : ℕ) → Gives table packets k (NotRead r)
        → ((other : Refusal) (j : ℕ) → number_of other < number_of r → Gives table packets j (NotRead other) → ⊥)
        → ((j : ℕ) → j < k → Gives table packets j (NotRead r) → ⊥)
        → (f.refusal.number ≡ number_of r) × (f.refusal.packet ≡ k)
    same_refusal r k g lower earlier =
        let small : number_of r < 25 = ltb-true (number_of r) 25 (both_right (leb 20 (number_of r)) (ltb (number_of r) 25) (refusal_range g)) in
        let meant : Lowest (refusals table packets) 25 (length packets) (number_of r) k =
        record {
          within = omega arith;
          lower = λ m j h l. false_unless (refusals table packets m j)
              (λ e. let w = refusal_given m j l e in lower w.0 j (subst (λ (x : ℕ). x < number_of r) (sym w.2) h) w.1);
          inside = λ h. inside g;
          holds = λ h. refusal_true g;
          earlier = λ h j l. false_unless (refusals table packets (number_of r) j)
              (λ e.
              let w = refusal_given (number_of r) j (omega (arith, inside g)) e in
              let same : w.0 ≡ r = sym (named_header w.0 (refusal_range w.1)) ∙ ap header_refusal w.2 ∙ named_header r (refusal_range g) in
              earlier j l (subst (λ (x : Refusal). Gives table packets j (NotRead x)) same w.1));
        } in
        let kept = low.refusal in
        let same : f.refusal.number ≡ number_of r =
        lowest_number_lem (refusals table packets) 25 (length packets) f.refusal.number f.refusal.packet kept
        ∙ sym (lowest_number_lem (refusals table packets) 25 (length packets) (number_of r) k meant) in (
          same,
          earliest_place_lem (refusals table packets) 25 (length packets) f.refusal.number f.refusal.packet kept (omega arith)
              ∙ ap (λ (m : ℕ). earliest_place (refusals table packets) m (length packets)) same
              ∙ sym (earliest_place_lem (refusals table packets) 25 (length packets) (number_of r) k meant small),
        )

    -- where none is refused, nothing was kept
    no_fault_kept : Clear table packets → 34 ≤ f.fault.number
    no_fault_kept c = go (ltb f.fault.number 34) refl
      where
        go : (t : Bool) → ltb f.fault.number 34 ≡ t → 34 ≤ f.fault.number
        go true e =
            let h = ltb-true f.fault.number 34 e in
            absurd (c.no_fault f.fault.number f.fault.packet (fault_given f.fault.number f.fault.packet (low.fault.inside h) (low.fault.holds h)))
        go false e = ltb-false f.fault.number 34 e

    no_refusal_kept : Readable table packets → 25 ≤ f.refusal.number
    no_refusal_kept c = go (ltb f.refusal.number 25) refl
      where
        go : (t : Bool) → ltb f.refusal.number 25 ≡ t → 25 ≤ f.refusal.number
        go true e =
            let h = ltb-true f.refusal.number 25 e in
            let w = refusal_given f.refusal.number f.refusal.packet (low.refusal.inside h) (low.refusal.holds h) in
            absurd (c.no_refusal w.0 f.refusal.packet w.1)
        go false e = ltb-false f.refusal.number 25 e

-- ---- THE ANSWER

module _ (table bytes : List ℕ) (room : ℕ) where
  pub cuts : Cuts packet_bytes (λ head. 0) bytes (packets_in bytes)
  cuts = cut_cuts packet_bytes (λ head. 0) (omega arith) (λ head rest e. refl) bytes

  only_cut : {packets : List Item} → Cuts packet_bytes (λ head. 0) bytes packets → packets ≡ packets_in bytes
  only_cut c = cuts_unique packet_bytes (λ head. 0) (omega arith) (λ head rest e. refl) c

  abbrev found : Found
  found = found_in table bytes

  low : Low table (packets_in bytes) (length (packets_in bytes)) found
  low = low_found table bytes

  -- the rows that are computed, and no others, are those of the packets
  pub all_rows_meant : RowsFrom table (packets_in bytes) 0 (rows_in table bytes)
  all_rows_meant = rows_meant table (packets_in bytes) (sized cuts) (packets_in bytes) 0 (omega arith) refl

  pub all_rows_only : {packets : List Item} {rows : List Row} → Cuts packet_bytes (λ head. 0) bytes packets → RowsFrom table packets 0 rows
      → rows ≡ rows_in table bytes
  all_rows_only {packets} {rows} c r =
      rows_only table (packets_in bytes) (sized cuts) (subst (λ (is : List Item). RowsFrom table is 0 rows) (only_cut c) r) (packets_in bytes) refl

  -- what is computed has the meaning
  pub answer_meant : Answers table bytes room (answer_of (found_in table bytes) room)
  answer_meant =
      by_tests (ltb found.fault.number 34) (ltb found.refusal.number 25) (ltb room found.rows) refl refl refl
    where
      by_tests : (a b c : Bool) → ltb found.fault.number 34 ≡ a → ltb found.refusal.number 25 ≡ b → ltb room found.rows ≡ c
          → Answers table bytes room
          (cond a (Err (Faulty (fault_of found.fault.number found.fault.packet)))
          (cond b (Err (Unread (header_refusal found.refusal.number) found.refusal.packet)) (cond c (Err TooManyRows) (Ok found.rows))))
      by_tests true b c p q r =
          let h = ltb-true found.fault.number 34 p in
          let n : ℕ = found.fault.number in
          let k : ℕ = found.fault.packet in
          let g : Gives table (packets_in bytes) k (Fault n) =
          fault_given table (packets_in bytes) (sized cuts) n k (low.fault.inside h) (low.fault.holds h) in
          let name : number_of (fault_of n k) ≡ n = fault_number n k (leb-true 30 n (both_left (leb 30 n) (ltb n 34) (fault_range table (packets_in bytes) (sized cuts) g))) h in
          let place : place_of (fault_of n k) ≡ k = fault_place n k in
          faulty cuts
          (subst (λ (x : ℕ). Gives table (packets_in bytes) x (Fault (number_of (fault_of n k)))) (sym place) (subst (λ (x : ℕ). Gives table (packets_in bytes) k (Fault x)) (sym name) g))
          (λ m j l d. both_ways (fault_true table (packets_in bytes) (sized cuts) d) (low.fault.lower m j (subst (λ (x : ℕ). m < x) name l) (inside table (packets_in bytes) (sized cuts) d)))
          (λ j l d. both_ways (fault_true table (packets_in bytes) (sized cuts) (subst (λ (x : ℕ). Gives table (packets_in bytes) j (Fault x)) name d))
          (low.fault.earlier h j (subst (λ (x : ℕ). j < x) place l)))
      by_tests false true c p q r =
          let h = ltb-true found.refusal.number 25 q in
          let w = refusal_given table (packets_in bytes) (sized cuts) found.refusal.number found.refusal.packet (low.refusal.inside h) (low.refusal.holds h) in
          let name : w.0 ≡ header_refusal found.refusal.number = sym (named_header w.0 (refusal_range table (packets_in bytes) (sized cuts) w.1)) ∙ ap header_refusal w.2 in
          subst (λ (x : Refusal). Answers table bytes room (Err (Unread x found.refusal.packet))) name
          (not_read cuts (clear table (packets_in bytes) (sized cuts) found low (ltb-false found.fault.number 34 p)) w.1
          (λ other j l d. both_ways (refusal_true table (packets_in bytes) (sized cuts) d)
          (low.refusal.lower (number_of other) j (subst (λ (x : ℕ). number_of other < x) w.2 l) (inside table (packets_in bytes) (sized cuts) d)))
          (λ j l d. both_ways (refusal_true table (packets_in bytes) (sized cuts) d)
          (subst (λ (x : ℕ). refusals table (packets_in bytes) x j ≡ false) (sym w.2) (low.refusal.earlier h j l))))
      by_tests false false true p q r =
          too_many cuts (clear table (packets_in bytes) (sized cuts) found low (ltb-false found.fault.number 34 p))
          (readable table (packets_in bytes) (sized cuts) found low (ltb-false found.refusal.number 25 q)) all_rows_meant
          (subst (λ (x : ℕ). room < x) (rows_counted table bytes) (ltb-true room found.rows r))
      by_tests false false false p q r =
          subst (λ (x : ℕ). Answers table bytes room (Ok x)) (sym (rows_counted table bytes))
          (all_rows cuts (clear table (packets_in bytes) (sized cuts) found low (ltb-false found.fault.number 34 p))
          (readable table (packets_in bytes) (sized cuts) found low (ltb-false found.refusal.number 25 q)) all_rows_meant
          (subst (λ (x : ℕ). x ≤ room) (rows_counted table bytes) (ltb-false room found.rows r)))

  -- and nothing else has it
  faulty_only : (fault : Refusal) → Gives table (packets_in bytes) (place_of fault) (Fault (number_of fault))
      → ((m j : ℕ) → m < number_of fault → Gives table (packets_in bytes) j (Fault m) → ⊥)
      → ((j : ℕ) → j < place_of fault → Gives table (packets_in bytes) j (Fault (number_of fault)) → ⊥)
      → Err (Faulty fault) ≡ answer_of found room
  faulty_only fault g lower earlier =
      let range = fault_range table (packets_in bytes) (sized cuts) g in
      let small : number_of fault < 34 = ltb-true (number_of fault) 34 (both_right (leb 30 (number_of fault)) (ltb (number_of fault) 34) range) in
      let w = same_fault table (packets_in bytes) (sized cuts) found low (number_of fault) (place_of fault) small g lower earlier in
      ap (λ (r : Refusal). Err (Faulty r)) (sym (named_fault fault range) ∙ ap₂ fault_of (sym w.0) (sym w.1))
      ∙ sym (answer_by_lem found room (lt-ltb found.fault.number 34 (omega (arith, w.0))) refl refl)

  unread_only : (refusal : Refusal) (k : ℕ) → Clear table (packets_in bytes) → Gives table (packets_in bytes) k (NotRead refusal)
      → ((other : Refusal) (j : ℕ) → number_of other < number_of refusal → Gives table (packets_in bytes) j (NotRead other) → ⊥)
      → ((j : ℕ) → j < k → Gives table (packets_in bytes) j (NotRead refusal) → ⊥)
      → Err (Unread refusal k) ≡ answer_of found room
  unread_only refusal k c g lower earlier =
      let w = same_refusal table (packets_in bytes) (sized cuts) found low refusal k g lower earlier in
      let range = refusal_range table (packets_in bytes) (sized cuts) g in
      let small : number_of refusal < 25 = ltb-true (number_of refusal) 25 (both_right (leb 20 (number_of refusal)) (ltb (number_of refusal) 25) range) in
      ap₂ (λ (r : Refusal) (n : ℕ). Err (Unread r n)) (sym (named_header refusal range) ∙ ap header_refusal (sym w.0)) (sym w.1)
      ∙ sym
      (answer_by_lem found room (le-ltb found.fault.number 34 (no_fault_kept table (packets_in bytes) (sized cuts) found low c))
      (lt-ltb found.refusal.number 25 (omega (arith, w.0))) refl)

  module _ (c : Clear table (packets_in bytes)) (d : Readable table (packets_in bytes)) {rows : List Row} (r : RowsFrom table (packets_in bytes) 0 rows) where
    as_many : length rows ≡ found.rows
    as_many = ap length (rows_only table (packets_in bytes) (sized cuts) r (packets_in bytes) refl) ∙ sym (rows_counted table bytes)

    by_room : (t : Bool) → ltb room found.rows ≡ t → answer_of found room ≡ cond t (Err TooManyRows) (Ok found.rows)
    by_room t e =
        answer_by_lem found room (le-ltb found.fault.number 34 (no_fault_kept table (packets_in bytes) (sized cuts) found low c))
        (le-ltb found.refusal.number 25 (no_refusal_kept table (packets_in bytes) (sized cuts) found low d)) e

    many_only : room < length rows → (Err TooManyRows) ≡ answer_of found room
    many_only h = sym (by_room true (lt-ltb room found.rows (subst (λ (x : ℕ). room < x) as_many h)))

    rows_are : length rows ≤ room → Ok (length rows) ≡ answer_of found room
    rows_are h = ap Ok as_many ∙ sym (by_room false (le-ltb room found.rows (subst (λ (x : ℕ). x ≤ room) as_many h)))

  pub answer_only : {recording : Recording} → Answers table bytes room recording → recording ≡ answer_of (found_in table bytes) room
  answer_only (faulty {packets} {fault} c g lower earlier) =
      let e : packets ≡ packets_in bytes = only_cut c in
      let back : packets_in bytes ≡ packets = sym e in
      faulty_only fault (subst (λ (is : List Item). Gives table is (place_of fault) (Fault (number_of fault))) e g)
      (λ m j h d. lower m j h (subst (λ (is : List Item). Gives table is j (Fault m)) back d))
      (λ j h d. earlier j h (subst (λ (is : List Item). Gives table is j (Fault (number_of fault))) back d))
  answer_only (not_read {packets} {refusal} {k} c l g lower earlier) =
      let e : packets ≡ packets_in bytes = only_cut c in
      let back : packets_in bytes ≡ packets = sym e in
      unread_only refusal k (subst (λ (is : List Item). Clear table is) e l) (subst (λ (is : List Item). Gives table is k (NotRead refusal)) e g)
      (λ other j h d. lower other j h (subst (λ (is : List Item). Gives table is j (NotRead other)) back d))
      (λ j h d. earlier j h (subst (λ (is : List Item). Gives table is j (NotRead refusal)) back d))
  answer_only (too_many {packets} {rows} c l d r h) =
      let e : packets ≡ packets_in bytes = only_cut c in
      many_only (subst (λ (is : List Item). Clear table is) e l) (subst (λ (is : List Item). Readable table is) e d) (subst (λ (is : List Item). RowsFrom table is 0 rows) e r) h
  answer_only (all_rows {packets} {rows} c l d r h) =
      let e : packets ≡ packets_in bytes = only_cut c in
      rows_are (subst (λ (is : List Item). Clear table is) e l) (subst (λ (is : List Item). Readable table is) e d) (subst (λ (is : List Item). RowsFrom table is 0 rows) e r) h
