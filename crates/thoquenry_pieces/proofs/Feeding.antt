-- The call of one piece more: what the functions that it calls promise is what it promises.
-- Assumes nothing.
use Prim.Native.Nat.{ℕ, ◌+◌, ◌-◌, ◌^◌, ◌≤◌, ◌<◌}
use mathlib.Core.Path.{◌≡◌, refl, sym, ap, ap₂, subst, ◌∙◌}
use mathlib.Core.Bool.{Bool, true, false, cond}
use mathlib.Core.List.{List, ◌++◌, append-nil}
use native.Mathlib.Omega.{arith}
use borrow.Author.Tests.{leb-true}
use lib.Dec.{leb}
use lib.ListN.{length, get_or, take, drop, length-drop, drop_of_length-le}
use lib.Seq.{sets}
use Rattle.combinators.specs.Bools.{both_left, both_right}
use Rattle.packets.specs.Reading.{packet_bytes}
use Rattle.recording_rows.specs.Columns.{Columns, room_in}
use Rattle.fed_packets.specs.Feeding.{Progress as Known}
use Rattle.feeding.specs.declared.Progress.{Progress}
use Rattle.feeding.specs.Pieces.{Ready, Feeds}
use Rattle.packet_states.specs.States.{most_packets, is_state, table_in, part_in, kept_in, state_of, ends_in, progress_in, no_room_in, counts_of, standing, fed_on, no_room_after, may_feed}
use Rattle.packet_states.specs.Meaning.{Stated}
use Rattle.packet_states.proofs.Judged.{stated}
use Rattle.packet_states.proofs.Fed.{ready, state_left, left_state, left_standing}
use Rattle.c_answers.specs.Answers.{accepted, not_a_call}
use Rattle.thoquenry_pieces.specs.Calls.{rows_laid, Becomes, FeedCall}

-- behind a part that goes to the end there is nothing
nothing_behind : (ys xs : List ℕ) (at : ℕ) → ys ++ drop (length xs - at) (drop at xs) ≡ ys
nothing_behind ys xs at =
    let all : length (drop at xs) ≤ length xs - at = omega (arith, length-drop at xs) in
    ap (λ (l : List ℕ). ys ++ l) (drop_of_length-le (drop at xs) {i = length xs - at} all) ∙ append-nil ys

module _ (piece state counts : List ℕ) (old : Columns) where
  pub not_fed : may_feed (length piece) state counts ≡ false → {answer : ℕ} → answer ≡ not_a_call → FeedCall piece state counts old answer state counts old
  not_fed e a =
      record {
        answers = a ∙ sym (ap (λ (t : Bool). cond t (accepted (fed_on piece (standing state counts)).found.rows) not_a_call) e);
        lays = sym (ap (λ (t : Bool). cond t (rows_laid piece (standing state counts) old) old) e);
        becomes = subst (λ (t : Bool). Becomes t (room_in old) piece state counts state counts) (sym e) (refl, refl);
      }

  module _ (may : may_feed (length piece) state counts ≡ true) where
    pub given_state : Stated state counts
    given_state = stated state counts (both_left (is_state state counts) (leb (length piece) (most_packets - get_or counts 65 0)) may)

    pub piece_fits : length piece ≤ most_packets - get_or counts 65 0
    piece_fits = leb-true (length piece) (most_packets - get_or counts 65 0) (both_right (is_state state counts) (leb (length piece) (most_packets - get_or counts 65 0)) may)

    module _ {table part₀ kept₀ ends₀ : List ℕ} {p : Progress} {room : ℕ} (et : table ≡ table_in state) (ep : p ≡ progress_in counts) (ea : part₀ ≡ part_in state)
        (ek : kept₀ ≡ kept_in state) (ee : ends₀ ≡ ends_in counts) (er : room ≡ room_in old) where
      pub given_ready : Ready p part₀ kept₀ ends₀
      given_ready =
          subst (λ (x : List ℕ). Ready p part₀ kept₀ x) (sym ee)
          (subst (λ (x : List ℕ). Ready p part₀ x (ends_in counts)) (sym ek)
          (subst (λ (x : List ℕ). Ready p x (kept_in state) (ends_in counts)) (sym ea)
          (subst (λ (x : Progress). Ready x (part_in state) (kept_in state) (ends_in counts)) (sym ep) (ready given_state))))

      pub given_room : p.number + length piece + packet_bytes < 2 ^ 64
      given_room =
          subst (λ (x : Progress). x.number + length piece + packet_bytes < 2 ^ 64) (sym ep)
          (below (get_or counts 65 0) (length piece) given_state.countable piece_fits)
        where
          below : (a n : ℕ) → a ≤ most_packets → n ≤ most_packets - a → a + n + packet_bytes < 2 ^ 64
          below a n h k = omega arith

      module _ {q : Progress} {part kept ends : List ℕ} {new : Columns} (feeds : Feeds table piece room p part₀ kept₀ ends₀ old q part kept ends new)
          (long : length kept ≡ length kept₀) where
        here : Feeds (table_in state) piece (room_in old) (progress_in counts) (part_in state) (kept_in state) (ends_in counts) old q part kept ends new
        here =
            subst (λ (x : List ℕ). Feeds (table_in state) piece (room_in old) (progress_in counts) (part_in state) (kept_in state) x old q part kept ends new) ee
            (subst (λ (x : List ℕ). Feeds (table_in state) piece (room_in old) (progress_in counts) (part_in state) x ends₀ old q part kept ends new) ek
            (subst (λ (x : List ℕ). Feeds (table_in state) piece (room_in old) (progress_in counts) x kept₀ ends₀ old q part kept ends new) ea
            (subst (λ (x : Progress). Feeds (table_in state) piece (room_in old) x part₀ kept₀ ends₀ old q part kept ends new) ep
            (subst (λ (x : ℕ). Feeds (table_in state) piece x p part₀ kept₀ ends₀ old q part kept ends new) er
            (subst (λ (x : List ℕ). Feeds x piece room p part₀ kept₀ ends₀ old q part kept ends new) et feeds)))))

        abbrev no_room : ℕ
        no_room = no_room_after (no_room_in counts) (room_in old) q.found.rows

        pub fed_call : {answer flag : ℕ} {new_state new_counts : List ℕ} → answer ≡ accepted q.found.rows
            → new_state ≡ sets (take 8380 state ++ (kept ++ drop (length state - 8380) (drop 8380 state))) 8192 part
            → flag ≡ no_room_after (no_room_in counts) room q.found.rows
            → new_counts ≡ counts_of q flag ends
            → FeedCall piece state counts old answer new_state new_counts new
        fed_call {answer} {flag} {new_state} {new_counts} a s f c =
            record {
              answers = a ∙ ap (λ (k : Known). accepted k.found.rows) here.goes_on ∙ sym (ap (λ (t : Bool). cond t (accepted (fed_on piece (standing state counts)).found.rows) not_a_call) may);
              lays = here.stored ∙ sym (ap (λ (t : Bool). cond t (rows_laid piece (standing state counts) old) old) may);
              becomes =
                  subst (λ (t : Bool). Becomes t (room_in old) piece state counts new_state new_counts) (sym may) (
                    ap₂ is_state stated_so counted ∙ left_state piece state counts (room_in old) given_state piece_fits here kept_long,
                    ap₂ standing stated_so counted ∙ left_standing piece state counts (room_in old) given_state piece_fits here kept_long,
                  );
            }
          where
            stated_so : new_state ≡ state_of (table_in state) part kept
            stated_so =
                s
                ∙ ap (λ (l : List ℕ). sets (take 8380 state ++ l) 8192 part) (nothing_behind kept state 8380)
                ∙ state_left state part kept given_state.long feeds.ready.long

            kept_long : length kept ≡ length (kept_in state)
            kept_long = long ∙ ap length ek

            counted : new_counts ≡ counts_of q no_room ends
            counted = c ∙ ap (λ (n : ℕ). counts_of q n ends) (f ∙ ap (λ (n : ℕ). no_room_after (no_room_in counts) n q.found.rows) er)

-- rows are few enough to be counted once more
pub rows_countable : (state counts : List ℕ) → is_state state counts ≡ true → {p : Progress} → p ≡ progress_in counts → p.found.rows < 2 ^ 64 - 1
rows_countable state counts is e =
    subst (λ (x : Progress). x.found.rows < 2 ^ 64 - 1) (sym e) (small (get_or counts 70 0) (get_or counts 65 0) (stated state counts is).rows (stated state counts is).countable)
  where
    small : (rows number : ℕ) → rows ≤ number → number ≤ most_packets → rows < 2 ^ 64 - 1
    small rows number h k = omega arith

pub same_le : {a b : ℕ} → a ≡ b → a ≤ b
same_le e = omega arith

pub part_laid : {state part new : ℕ} → state ≡ 20412 → new ≡ state → part ≡ packet_bytes → 8192 + part ≤ new
part_laid a b c = omega arith
