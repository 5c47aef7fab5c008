-- Entries weighed one after another, wherever they come from: what is known after some of them, what another adds, and what they all come to.
-- Assumes nothing.
use Prim.Native.Nat.{ℕ, ◌+◌, ◌*◌, ◌≤◌, ◌<◌}
use mathlib.Core.Path.{◌≡◌, refl, sym, ◌∙◌, ap, subst}
use mathlib.Core.Bool.{Bool, true, false}
use mathlib.Core.List.{List, ◌++◌, map}
use native.Mathlib.Omega.{arith}
use lib.ListN.{length, take, get_or, set, replicate, length-append}
use lib.Seq.{take_all}
use Rattle.combinators.specs.Lists.{gather_next, get_d_nth, get_d_map}
use Rattle.combinators.specs.Lowest.{Lowest}
use Rattle.records.specs.Records.{index_of}
use Rattle.implied.specs.Rule.{given as givenBy}
use Rattle.loop_entries.specs.declared.Entry.{Entry}
use Rattle.loop_entries.specs.declared.Stream.{Stream}
use Rattle.loop_entries.specs.Entries.{no_stream}
use Rattle.loop_faults.specs.Conditions.{stream_at, slot_of}
use Rattle.loop_faults.proofs.Passing.{Passed, passed_start, passed_next}
use Rattle.loop_writer.specs.declared.weighing.Weighed.{Weighed}
use Rattle.loop_writer.specs.Layout.{entry_bytes, loop_bytes, too_wide}
use Rattle.loop_writer.specs.Verdict.{stream_for, applies_to, pair_for, given_to}
use Rattle.loop_writer.specs.Weighing.{nothing_weighed, weighed_next, Weighs}
use Rattle.loop_writer.proofs.Entries.{pid_small}

module _ (given : List Entry) where
  -- what is known after i of the entries
  pub record Weighing (marks held : List Bool) (weighed : Weighed) (i : ℕ) : Type 0 where
    pub within : i ≤ length given
    pub small : weighed.size ≤ 77 * i
    pub size : weighed.size ≡ length (loop_bytes (take i given))
    pub passed : Passed (map stream_for given) marks held weighed.fault i

  pub weighing_start : Weighing (replicate 8192 false) (replicate 257 false) nothing_weighed 0
  weighing_start =
      record { within = omega arith; small = omega arith; size = refl; passed = passed_start (map stream_for given) }

  -- another entry, with the values that the code holds
  module _ (marks held : List Bool) (weighed : Weighed) (i : ℕ) (known : Weighing marks held weighed i) (inside : i < length given)
      (d e : Entry) (here : get_or given i d ≡ e) (fine : too_wide e ≡ false) (is_given : Bool) (is_given_lem : is_given ≡ given_to (pair_for given) e)
      (index_small : index_of e.stream_type e.«record» < 256) where
    pub weighing_next : (after : Weighed) (marks₂ held₂ : List Bool) → after ≡ weighed_next is_given marks held weighed e i → after.size ≤ 77 * (i + 1)
        → marks₂ ≡ set marks e.pid true → held₂ ≡ set held (slot_of e.stream_type e.«record») true → Weighing marks₂ held₂ after (i + 1)
    weighing_next after marks₂ held₂ is_after small is-marks is_held_lem =
        record {
          within = omega arith;
          small = small;
          size = ap (λ (w : Weighed). w.size) is_after
              ∙ ap (λ (n : ℕ). n + length (entry_bytes e)) known.size
              ∙ sym (length-append (loop_bytes (take i given)) (entry_bytes e))
              ∙ sym (ap length (gather_next given d entry_bytes i inside ∙ ap (λ (x : Entry). loop_bytes (take i given) ++ entry_bytes x) here));
          passed = passed_next (map stream_for given) marks held weighed.fault i known.passed is_given (stream_for e) stands
              (is_given_lem ∙ ap (λ (s : Stream). givenBy (pair_for given) s.stream_type) (sym stands)) (pid_small e fine) index_small
              after.fault marks₂ held₂ (ap (λ (w : Weighed). w.fault) is_after) is-marks is_held_lem;
        }
      where
        stands : stream_at (map stream_for given) i ≡ stream_for e
        stands = get_d_map stream_for no_stream (get_d_nth given i d inside) ∙ ap stream_for here

  -- all of them
  pub weighing_end : (marks held : List Bool) (weighed : Weighed) (i : ℕ) → Weighing marks held weighed i → length given ≤ i → Weighs given weighed
  weighing_end marks held weighed i known done =
      let all : i ≡ length given = omega (arith, known.within) in
      record {
        size = known.size ∙ ap (λ (l : List Entry). length (loop_bytes l)) (take_all i given done);
        lowest = subst (λ (n : ℕ). Lowest (applies_to given) 10 n weighed.fault.number weighed.fault.place) all known.passed.lowest;
        unset = known.passed.unset;
      }
