-- One piece more: the lists that it leaves are a state again, and stand for what was known, gone on over the piece.
-- Assumes nothing.
use Prim.Native.Nat.{ℕ, suc, ◌+◌, ◌-◌, ◌/◌, ◌≤◌, ◌<◌}
use mathlib.Core.Path.{◌≡◌, refl, sym, ap, ap₂, subst, ◌∙◌}
use mathlib.Core.Bool.{Bool, true, false, cond, ◌||◌}
use mathlib.Core.List.{List, [], ◌∷◌, ◌++◌}
use native.Mathlib.Decide.{dec_lt}
use native.Mathlib.Omega.{arith}
use borrow.Author.Tests.{ltb-true, leb-true, eqb-true}
use lib.Dec.{ltb, leb, eqb}
use lib.ListN.{length, get_or, take, drop, length-append, length-take, length-drop, get_or-eq_default, get_or-append}
use lib.Seq.{sets, sets-eq, take_at, drop_at, take-take, get_or-take, take-append-le, get_or-append-add, drop-append-add, length-take-le}
use Rattle.combinators.specs.Bools.{both_left, either_way}
use Rattle.framing.specs.Pieces.{Item}
use Rattle.packets.specs.Reading.{packet_bytes}
use Rattle.vocabulary.specs.Refusals.{number_of}
use Rattle.scanning.specs.declared.events.Event.{Event}
use Rattle.scanning.specs.declared.events.Event.TheVariants.{Nothing, Fault, NotRead, Unit}
use Rattle.scanning.specs.Events.{packets_in, event_of, lasts_after}
use Rattle.unit_starts.specs.declared.Mark.{Mark}
use Rattle.unit_starts.specs.declared.Found.{Found}
use Rattle.unit_starts.specs.Finding.{lower_of, noted, found_from}
use Rattle.unit_starts.proofs.Running.{rows_counted_from}
use Rattle.recordings.proofs.Answered.{in_range, event_in_range}
use Rattle.recording_rows.specs.Columns.{Columns}
use Rattle.fed_packets.specs.Feeding.{Progress as Known, whole_of, packets_whole, fed}
use Rattle.feeding.specs.declared.Progress.{Progress}
use Rattle.feeding.specs.Pieces.{known_by, Ready, Feeds}
use Rattle.packet_states.specs.States.{state_bytes, most_packets, is_state, table_in, part_in, kept_in, state_of, ends_in, progress_in, no_room_in, numbers_of, counts_of, standing, standing_fed, no_room_after}
use Rattle.packet_states.specs.Meaning.{Stated}
use Rattle.packet_states.proofs.Judged.{a_state}

-- ---- a state is ready for a piece

few_ends : (counts : List ℕ) → ((i : ℕ) → i < 64 → get_or counts i 0 ≤ 1) → (i : ℕ) → get_or (ends_in counts) i 0 ≤ 1
few_ends counts few i = go (dec_lt i 64)
  where
    go : Dec (i < 64) → get_or (ends_in counts) i 0 ≤ 1
    go (yes h) = subst (λ (n : ℕ). n ≤ 1) (sym (get_or-take 64 counts i 0 h)) (few i h)
    go (no h) =
        let none : ◌≡◌ {A = ℕ} (get_or (ends_in counts) i 0) 0 = get_or-eq_default (ends_in counts) 0 {n = i} (omega (arith, length-take 64 counts)) in
        omega (arith, none)

module _ {state counts : List ℕ} (s : Stated state counts) where
  pub part_long : length (part_in state) ≡ packet_bytes
  part_long = length-take-le 188 (drop 8192 state) (omega (arith, length-drop 8192 state, s.long))

  pub ready : Ready (progress_in counts) (part_in state) (kept_in state) (ends_in counts)
  ready =
      record {
        long = part_long;
        short = s.short;
        held =
            record {
              room = omega (arith, length-drop 8380 state, s.long);
              many = length-take-le 64 counts (omega (arith, s.numbers));
              few = few_ends counts s.few;
            };
        few = s.rows;
      }

-- ---- numbers stay in their ranges

pub record InRange (f : Found) : Type 0 where
  pub fault_from : 30 ≤ f.fault.number
  pub fault_to : f.fault.number ≤ 34
  pub refusal_from : 20 ≤ f.refusal.number
  pub refusal_to : f.refusal.number ≤ 25

lower_from : (m n k : ℕ) (mark : Mark) → m ≤ mark.number → m ≤ n → m ≤ (lower_of mark n k).number
lower_from m n k mark h g = either_way (λ (x : Mark). m ≤ x.number) (ltb n mark.number) (record { number = n; packet = k }) mark g h

lower_to : (m n k : ℕ) (mark : Mark) → mark.number ≤ m → (lower_of mark n k).number ≤ m
lower_to m n k mark h = go (ltb n mark.number) refl
  where
    go : (t : Bool) → ltb n mark.number ≡ t → (cond t (record { number = n; packet = k }) mark).number ≤ m
    go true e = omega (arith, ltb-true n mark.number e)
    go false e = h

noted_range : (k : ℕ) (event : Event) (f : Found) → in_range event ≡ true → InRange f → InRange (noted k event f)
noted_range k Nothing f e r = r
noted_range k (Fault n) f e r =
    record {
      fault_from = lower_from 30 n k f.fault r.fault_from (leb-true 30 n (both_left (leb 30 n) (ltb n 34) e));
      fault_to = lower_to 34 n k f.fault r.fault_to;
      refusal_from = r.refusal_from;
      refusal_to = r.refusal_to;
    }
noted_range k (NotRead refusal) f e r =
    record {
      fault_from = r.fault_from;
      fault_to = r.fault_to;
      refusal_from = lower_from 20 (number_of refusal) k f.refusal r.refusal_from (leb-true 20 (number_of refusal) (both_left (leb 20 (number_of refusal)) (ltb (number_of refusal) 25) e));
      refusal_to = lower_to 25 (number_of refusal) k f.refusal r.refusal_to;
    }
noted_range k (Unit row) f e r =
    record { fault_from = r.fault_from; fault_to = r.fault_to; refusal_from = r.refusal_from; refusal_to = r.refusal_to }

found_range : (table : List ℕ) (k : ℕ) (is : List Item) (lasts : List (List ℕ)) (f : Found) → InRange f → InRange (found_from table k is lasts f)
found_range table k [] lasts f r = r
found_range table k (i ∷ is) lasts f r =
    found_range table (suc k) is (lasts_after table i lasts) (noted k (event_of table k i lasts) f) (noted_range k (event_of table k i lasts) f (event_in_range table k i lasts) r)

-- ---- the lists that are left

pub state_left : (state part kept : List ℕ) → length state ≡ state_bytes → length part ≡ packet_bytes
    → sets (take 8380 state ++ kept) 8192 part ≡ state_of (table_in state) part kept
state_left state part kept e p =
    sets-eq part (take 8380 state ++ kept) 8192 (omega (arith, length-append (take 8380 state) kept, front, p))
    ∙ ap₂ (λ (x y : List ℕ). x ++ part ++ y)
    (take-append-le 8192 (take 8380 state) kept (omega (arith, front)) ∙ take-take 8192 8380 state (omega arith))
    (drop_at (take 8380 state) kept (8192 + length part) (front ∙ omega (arith, p)))
    ∙ mathlib.Core.List.append_assoc (table_in state) part kept
  where
    front : length (take 8380 state) ≡ 8380
    front = length-take-le 8380 state (omega (arith, e))

module _ (table part kept : List ℕ) (t : length table ≡ 8192) (p : length part ≡ packet_bytes) where
  pub table_of_lem : table_in (state_of table part kept) ≡ table
  table_of_lem = take_at table (part ++ kept) 8192 t

  pub part_of : part_in (state_of table part kept) ≡ part
  part_of = ap (take 188) (drop_at table (part ++ kept) 8192 t) ∙ take_at part kept 188 p

  pub kept_of : kept_in (state_of table part kept) ≡ kept
  kept_of =
      ap (λ (n : ℕ). drop n (table ++ (part ++ kept))) places ∙ drop-append-add table (part ++ kept) 188 ∙ drop_at part kept 188 p
    where
      places : 8380 ≡ length table + 188
      places = omega (arith, t)

  pub state_long : length (state_of table part kept) ≡ 8192 + (packet_bytes + length kept)
  state_long = length-append table (part ++ kept) ∙ ap₂ ◌+◌ t (length-append part kept ∙ ap (λ (n : ℕ). n + length kept) p)

module _ (q : Progress) (no_room : ℕ) (ends : List ℕ) (e : length ends ≡ 64) where
  number_at : (n : ℕ) → get_or (counts_of q no_room ends) (64 + n) 0 ≡ get_or (numbers_of q no_room) n 0
  number_at n = ap (λ (m : ℕ). get_or (counts_of q no_room ends) (m + n) 0) (sym e) ∙ get_or-append-add ends (numbers_of q no_room) n 0

  pub ends_of : ends_in (counts_of q no_room ends) ≡ ends
  ends_of = take_at ends (numbers_of q no_room) 64 e

  pub progress_of : progress_in (counts_of q no_room ends) ≡ q
  progress_of =
      λ i. record {
        part = number_at 0 i;
        number = number_at 1 i;
        found =
            record {
              fault = record { number = number_at 2 i; packet = number_at 3 i };
              refusal = record { number = number_at 4 i; packet = number_at 5 i };
              rows = number_at 6 i;
            };
      }

  pub no_room_of : no_room_in (counts_of q no_room ends) ≡ no_room
  no_room_of = number_at 7

  pub counts_long : length (counts_of q no_room ends) ≡ 72
  counts_long = length-append ends (numbers_of q no_room) ∙ omega (arith, e)

-- ---- the flag

flag_is : (no_room room rows : ℕ) → eqb (no_room_after no_room room rows) 1 ≡ eqb no_room 1 || ltb room rows
flag_is no_room room rows = go (eqb no_room 1) (ltb room rows)
  where
    go : (t u : Bool) → eqb (cond t 1 (cond u 1 0)) 1 ≡ t || u
    go true u = refl
    go false true = refl
    go false false = refl

flag_few : (no_room room rows : ℕ) → no_room_after no_room room rows ≤ 1
flag_few no_room room rows = go (eqb no_room 1) (ltb room rows)
  where
    go : (t u : Bool) → cond t 1 (cond u 1 0) ≤ 1
    go true u = omega arith
    go false true = omega arith
    go false false = omega arith

flag_rows : (no_room room before rows : ℕ) → no_room ≤ before → before ≤ rows → no_room_after no_room room rows ≤ rows
flag_rows no_room room before rows h k = go (eqb no_room 1) (ltb room rows) refl refl
  where
    go : (t u : Bool) → eqb no_room 1 ≡ t → ltb room rows ≡ u → cond t 1 (cond u 1 0) ≤ rows
    go true u e f = omega (arith, eqb-true no_room 1 e)
    go false true e f = omega (arith, ltb-true room rows f)
    go false false e f = omega arith

-- ---- the piece

packets_few : (part size packets : ℕ) → part < packet_bytes → packets ≡ (part + size) / packet_bytes → packets ≤ size
packets_few part size packets h e = omega arith

grown : (a b n : ℕ) → b ≡ a + n → a ≤ b
grown a b n e = omega arith

module _ (piece state counts : List ℕ) (room : ℕ) (s : Stated state counts) (fits : length piece ≤ most_packets - get_or counts 65 0) {q : Progress} {part kept ends : List ℕ}
    {old new : Columns} (feeds : Feeds (table_in state) piece room (progress_in counts) (part_in state) (kept_in state) (ends_in counts) old q part kept ends new)
    (kept_long : length kept ≡ length (kept_in state)) where
  abbrev known : Known
  known = (standing state counts).known

  abbrev no_room : ℕ
  no_room = no_room_after (no_room_in counts) room q.found.rows

  table_long : length (table_in state) ≡ 8192
  table_long = length-take-le 8192 state (omega (arith, s.long))

  pub left_standing : standing (state_of (table_in state) part kept) (counts_of q no_room ends) ≡ standing_fed room piece (standing state counts)
  left_standing =
      λ i. record {
        table = table_of_lem (table_in state) part kept table_long feeds.ready.long i;
        known = known_left i;
        overflown = flag_left i;
      }
    where
      known_left : known_by (progress_in (counts_of q no_room ends)) (part_in (state_of (table_in state) part kept)) (kept_in (state_of (table_in state) part kept)) (ends_in (counts_of q no_room ends))
          ≡ fed (table_in state) known piece
      known_left =
          (λ i. known_by (progress_of q no_room ends feeds.ready.held.many i) (part_of (table_in state) part kept table_long feeds.ready.long i)
          (kept_of (table_in state) part kept table_long feeds.ready.long i) (ends_of q no_room ends feeds.ready.held.many i))
          ∙ feeds.goes_on

      flag_left : eqb (no_room_in (counts_of q no_room ends)) 1 ≡ eqb (no_room_in counts) 1 || ltb room (fed (table_in state) known piece).found.rows
      flag_left =
          ap (λ (n : ℕ). eqb n 1) (no_room_of q no_room ends feeds.ready.held.many)
          ∙ flag_is (no_room_in counts) room q.found.rows
          ∙ ap (λ (k : Known). eqb (no_room_in counts) 1 || ltb room k.found.rows) feeds.goes_on

  -- no more packets than bytes
  packets_counted : q.number ≤ get_or counts 65 0 + length piece
  packets_counted =
      subst (λ (n : ℕ). n ≤ get_or counts 65 0 + length piece) (sym (ap (λ (k : Known). k.number) feeds.goes_on))
      (add_few (get_or counts 65 0) (packets_whole (known.part ++ piece)) (length piece)
      (packets_few (get_or counts 64 0) (length piece) (packets_whole (known.part ++ piece)) s.short (ap (λ (n : ℕ). n / packet_bytes) carried)))
    where
      carried : length (known.part ++ piece) ≡ get_or counts 64 0 + length piece
      carried =
          length-append known.part piece
          ∙ ap (λ (n : ℕ). n + length piece) (length-take-le (get_or counts 64 0) (part_in state) (omega (arith, part_long s, s.short)))

      add_few : (a m n : ℕ) → m ≤ n → a + m ≤ a + n
      add_few a m n h = omega arith

  countable : q.number ≤ most_packets
  countable = bounded (get_or counts 65 0) (length piece) q.number most_packets s.countable fits packets_counted
    where
      bounded : (a n m most : ℕ) → a ≤ most → n ≤ most - a → m ≤ a + n → m ≤ most
      bounded a n m most h k l = omega arith

  rows_grown : get_or counts 70 0 ≤ q.found.rows
  rows_grown =
      grown (get_or counts 70 0) q.found.rows _
      (ap (λ (k : Known). k.found.rows) feeds.goes_on
      ∙ rows_counted_from (table_in state) known.number (packets_in (whole_of (known.part ++ piece))) known.lasts known.found)

  range : InRange q.found
  range =
      subst InRange (sym (ap (λ (k : Known). k.found) feeds.goes_on))
      (found_range (table_in state) known.number (packets_in (whole_of (known.part ++ piece))) known.lasts known.found
      (record { fault_from = s.fault_from; fault_to = s.fault_to; refusal_from = s.refusal_from; refusal_to = s.refusal_to }))

  pub left_state : is_state (state_of (table_in state) part kept) (counts_of q no_room ends) ≡ true
  left_state =
      a_state (state_of (table_in state) part kept) (counts_of q no_room ends)
      (record {
        long = state_long (table_in state) part kept table_long feeds.ready.long ∙ all_bytes;
        numbers = counts_long q no_room ends many;
        few = λ i h. subst (λ (n : ℕ). n ≤ 1) (sym (get_or-append ends (numbers_of q no_room) 0 i (subst (λ (n : ℕ). i < n) (sym many) h))) (feeds.ready.held.few i);
        short = subst (λ (n : ℕ). n < 188) (sym (at 0)) feeds.ready.short;
        countable = subst (λ (n : ℕ). n ≤ most_packets) (sym (at 1)) countable;
        fault_from = subst (λ (n : ℕ). 30 ≤ n) (sym (at 2)) range.fault_from;
        fault_to = subst (λ (n : ℕ). n ≤ 34) (sym (at 2)) range.fault_to;
        refusal_from = subst (λ (n : ℕ). 20 ≤ n) (sym (at 4)) range.refusal_from;
        refusal_to = subst (λ (n : ℕ). n ≤ 25) (sym (at 4)) range.refusal_to;
        rows = subst (λ (n : ℕ). n ≤ get_or new_counts 65 0) (sym (at 6)) (subst (λ (n : ℕ). q.found.rows ≤ n) (sym (at 1)) feeds.ready.few);
        flag = subst (λ (n : ℕ). n ≤ 1) (sym (at 7)) (flag_few (no_room_in counts) room q.found.rows);
        row_there =
            subst (λ (n : ℕ). n ≤ get_or new_counts 70 0) (sym (at 7))
            (subst (λ (n : ℕ). no_room ≤ n) (sym (at 6)) (flag_rows (no_room_in counts) room (get_or counts 70 0) q.found.rows s.row_there rows_grown));
      })
    where
      many : length ends ≡ 64
      many = feeds.ready.held.many

      new_counts : List ℕ
      new_counts = counts_of q no_room ends

      at : (n : ℕ) → get_or (counts_of q no_room ends) (64 + n) 0 ≡ get_or (numbers_of q no_room) n 0
      at = number_at q no_room ends many

      all_bytes : 8192 + (packet_bytes + length kept) ≡ state_bytes
      all_bytes = omega (arith, kept_long, length-drop 8380 state, s.long)
