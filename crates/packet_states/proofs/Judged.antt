-- Whether lists are a state, from the tests that the code makes in turn; and what follows where they are one.
-- Assumes nothing.
use Prim.Native.Nat.{ℕ, zero, suc, ◌≤◌, ◌<◌}
use mathlib.Core.Path.{◌≡◌, refl, sym, ap, ap₂, subst, ◌∙◌}
use mathlib.Core.Bool.{Bool, true, false, not, ◌&&◌, ◌||◌}
use mathlib.Core.List.{List, [], ◌∷◌}
use native.Mathlib.Omega.{arith}
use borrow.Author.Tests.{ne_eqb, eq-eqb, eqb-true, ltb-true, ltb-false, leb-true, lt-ltb, le-ltb, le-leb, not-true}
use lib.Dec.{ltb, leb, eqb}
use lib.ListN.{length, get_or, take, length-take}
use lib.Seq.{take-take, get_or-take, length-take-le}
use Rattle.combinators.specs.Bools.{both_left, both_right}
use Rattle.combinators.specs.Lists.{any, any_none}
use Rattle.packet_states.specs.Meaning.{Stated}
use Rattle.packet_states.specs.States.{state_bytes, state_numbers, past_one, most_packets, possible_numbers, numbers_possible, is_state}

module _ (state counts : List ℕ) where
  abbrev later : Bool
  later = eqb (length counts) state_numbers && (not (any past_one (take 64 counts)) && numbers_possible counts)

  abbrev last_two : Bool
  last_two = not (any past_one (take 64 counts)) && numbers_possible counts

  pub bytes_wrong : (length state ≡ state_bytes → ⊥) → false ≡ is_state state counts
  bytes_wrong f = sym (ap (λ (t : Bool). t && later) (ne_eqb (length state) state_bytes f))

  pub numbers_wrong : length state ≡ state_bytes → (length counts ≡ state_numbers → ⊥) → false ≡ is_state state counts
  numbers_wrong e f = sym (ap₂ (λ (t u : Bool). t && (u && last_two)) (eq-eqb (length state) state_bytes e) (ne_eqb (length counts) state_numbers f))

  module _ (e : length state ≡ state_bytes) (f : length counts ≡ state_numbers) {past : Bool} (p : past ≡ any past_one (take 64 counts)) where
    on : is_state state counts ≡ not past && numbers_possible counts
    on =
        ap₂ (λ (t u : Bool). t && (u && last_two)) (eq-eqb (length state) state_bytes e) (eq-eqb (length counts) state_numbers f)
        ∙ ap (λ (t : Bool). not t && numbers_possible counts) (sym p)

    pub ends_wrong : past ≡ true → false ≡ is_state state counts
    ends_wrong t = sym (on ∙ ap (λ (x : Bool). not x && numbers_possible counts) t)

    pub numbers_decide : past ≡ false → numbers_possible counts ≡ is_state state counts
    numbers_decide t = sym (on ∙ ap (λ (x : Bool). not x && numbers_possible counts) t)

module _ (part number fault refusal rows no_room : ℕ) where
  abbrev t1 : Bool
  t1 = ltb part 188

  abbrev t2 : Bool
  t2 = t1 && leb number most_packets

  abbrev t3 : Bool
  t3 = t2 && leb 30 fault

  abbrev t4 : Bool
  t4 = t3 && leb fault 34

  abbrev t5 : Bool
  t5 = t4 && leb 20 refusal

  abbrev t6 : Bool
  t6 = t5 && leb refusal 25

  abbrev t7 : Bool
  t7 = t6 && leb rows number

  abbrev t8 : Bool
  t8 = t7 && leb no_room 1

  module _ (e : possible_numbers part number fault refusal rows no_room ≡ true) where
    abbrev e8 : t8 ≡ true
    e8 = both_left t8 (leb no_room rows) e

    abbrev e7 : t7 ≡ true
    e7 = both_left t7 (leb no_room 1) e8

    abbrev e6 : t6 ≡ true
    e6 = both_left t6 (leb rows number) e7

    abbrev e5 : t5 ≡ true
    e5 = both_left t5 (leb refusal 25) e6

    abbrev e4 : t4 ≡ true
    e4 = both_left t4 (leb 20 refusal) e5

    abbrev e3 : t3 ≡ true
    e3 = both_left t3 (leb fault 34) e4

    abbrev e2 : t2 ≡ true
    e2 = both_left t2 (leb 30 fault) e3

    each_possible : (part < 188) × (number ≤ most_packets) × (30 ≤ fault) × (fault ≤ 34) × (20 ≤ refusal) × (refusal ≤ 25) × (rows ≤ number) × (no_room ≤ 1) × (no_room ≤ rows)
    each_possible = (
      ltb-true part 188 (both_left t1 (leb number most_packets) e2),
      leb-true number most_packets (both_right t1 (leb number most_packets) e2),
      leb-true 30 fault (both_right t2 (leb 30 fault) e3),
      leb-true fault 34 (both_right t3 (leb fault 34) e4),
      leb-true 20 refusal (both_right t4 (leb 20 refusal) e5),
      leb-true refusal 25 (both_right t5 (leb refusal 25) e6),
      leb-true rows number (both_right t6 (leb rows number) e7),
      leb-true no_room 1 (both_right t7 (leb no_room 1) e8),
      leb-true no_room rows (both_right t8 (leb no_room rows) e),
    )

  all_possible : part < 188 → number ≤ most_packets → 30 ≤ fault → fault ≤ 34 → 20 ≤ refusal → refusal ≤ 25 → rows ≤ number → no_room ≤ 1 → no_room ≤ rows
      → possible_numbers part number fault refusal rows no_room ≡ true
  all_possible a b c d e f g h i =
      rw (lt-ltb part 188 a, le-leb number most_packets b, le-leb 30 fault c, le-leb fault 34 d, le-leb 20 refusal e, le-leb refusal 25 f, le-leb rows number g, le-leb no_room 1 h, le-leb no_room rows i)

-- ---- the last packets of the layers

at_most_one : (counts : List ℕ) → 64 ≤ length counts → any past_one (take 64 counts) ≡ false → (i : ℕ) → i < 64 → get_or counts i 0 ≤ 1
at_most_one counts long e i h =
    let all : length (take 64 counts) ≡ 64 = length-take-le 64 counts long in
    subst (λ (n : ℕ). n ≤ 1) (get_or-take 64 counts i 0 h)
    (ltb-false 1 (get_or (take 64 counts) i 0) (any_none (take 64 counts) 0 past_one 64 i h (omega (arith, all)) (ap (any past_one) (take-take 64 64 counts (omega arith)) ∙ e)))

none_past : (l : List ℕ) → ((i : ℕ) → i < length l → get_or l i 0 ≤ 1) → any past_one l ≡ false
none_past [] f = refl
none_past (n ∷ l) f = ap₂ ◌||◌ (le-ltb 1 n (f zero (omega arith))) (none_past l (λ i h. f (suc i) (omega arith)))

none_past_one : (counts : List ℕ) → ((i : ℕ) → i < 64 → get_or counts i 0 ≤ 1) → any past_one (take 64 counts) ≡ false
none_past_one counts f = none_past (take 64 counts) here
  where
    here : (i : ℕ) → i < length (take 64 counts) → get_or (take 64 counts) i 0 ≤ 1
    here i h =
        let small : i < 64 = omega (arith, length-take 64 counts) in
        subst (λ (n : ℕ). n ≤ 1) (sym (get_or-take 64 counts i 0 small)) (f i small)

-- THE MEANING, both ways
module _ (state counts : List ℕ) where
  pub stated : is_state state counts ≡ true → Stated state counts
  stated e =
      let behind = both_right (eqb (length state) state_bytes) (later state counts) e in
      let last = both_right (eqb (length counts) state_numbers) (last_two state counts) behind in
      let p = each_possible (get_or counts 64 0) (get_or counts 65 0) (get_or counts 66 0) (get_or counts 68 0) (get_or counts 70 0) (get_or counts 71 0)
      (both_right (not (any past_one (take 64 counts))) (numbers_possible counts) last) in
      let long_enough : length counts ≡ state_numbers = eqb-true (length counts) state_numbers (both_left (eqb (length counts) state_numbers) (last_two state counts) behind) in
      record {
        long = eqb-true (length state) state_bytes (both_left (eqb (length state) state_bytes) (later state counts) e);
        numbers = long_enough;
        few = at_most_one counts (omega (arith, long_enough)) (not-true (any past_one (take 64 counts)) (both_left (not (any past_one (take 64 counts))) (numbers_possible counts) last));
        short = p.0;
        countable = p.1;
        fault_from = p.2;
        fault_to = p.3;
        refusal_from = p.4;
        refusal_to = p.5;
        rows = p.6;
        flag = p.7;
        row_there = p.8;
      }

  pub a_state : Stated state counts → is_state state counts ≡ true
  a_state s =
      sym (numbers_decide state counts s.long s.numbers {past = false} (sym (none_past_one counts s.few)) refl)
      ∙ all_possible (get_or counts 64 0) (get_or counts 65 0) (get_or counts 66 0) (get_or counts 68 0) (get_or counts 70 0) (get_or counts 71 0) s.short s.countable
      s.fault_from s.fault_to s.refusal_from s.refusal_to s.rows s.flag s.row_there
