-- The judging pass over a list of streams, which the reader and the writer of a loop share: what is known after some of them, and what another
-- adds.
-- Assumes nothing.
use Prim.Native.Nat.{ℕ, ◌+◌, ◌≤◌, ◌<◌}
use mathlib.Core.Path.{◌≡◌, refl, sym, ap, subst}
use mathlib.Core.Logic.{◌≢◌}
use mathlib.Core.Bool.{Bool, true, false}
use mathlib.Core.List.{List}
use native.Mathlib.Omega.{arith}
use native.Mathlib.Decide.{dec_lt}
use borrow.Author.Tests.{lt-ltb, le-ltb}
use lib.ListN.{get_or, set, replicate}
use Rattle.combinators.specs.Below.{First}
use Rattle.combinators.specs.Lists.{first_true_lem}
use Rattle.combinators.specs.Lowest.{Lowest, lowest_start, lowest_replace, lowest_keep}
use Rattle.combinators.specs.Marks.{Marks, marks_start, marks_step}
use Rattle.records.specs.Records.{index_of}
use Rattle.loop_entries.specs.declared.Stream.{Stream}
use Rattle.loop_faults.specs.declared.Fault.{Fault}
use Rattle.loop_faults.specs.Conditions.{stream_at, pid_at, type_at, record_at, given_at, conditions, applies, fault_at, slot_of, lower_of}
use Rattle.loop_faults.proofs.Marked.{marked_tests}

module _ (all : List Stream) where
  -- what is known after `count` streams
  pub record Passed (marks held : List Bool) (fault : Fault) (count : ℕ) : Type 0 where
    pub pids : Marks 8192 (pid_at all) count marks
    pub indices : Marks 257 (λ j. slot_of (type_at all j) (record_at all j)) count held
    pub lowest : Lowest (applies all) 10 count fault.number fault.place
    -- past all numbers the place is 0
    pub unset : 10 ≤ fault.number → fault.place ≡ 0

  pub passed_start : Passed (replicate 8192 false) (replicate 257 false) (record { number = 10; place = 0 }) 0
  passed_start =
      record {
        pids = marks_start 8192 (pid_at all);
        indices = marks_start 257 (λ j. slot_of (type_at all j) (record_at all j));
        lowest = lowest_start (applies all) 10 0;
        unset = λ h. refl;
      }

  -- another stream: its lowest number, as the marks show it
  module _ (marks held : List Bool) (fault : Fault) (count : ℕ) (known : Passed marks held fault count) (is_given : Bool) (s : Stream) (here : stream_at all count ≡ s)
      (given_here : is_given ≡ given_at all count) (pid_small : s.pid < 8192) (index_small : index_of s.stream_type s.seen.«record» < 256) where
    abbrev number : ℕ
    number = fault_at is_given marks held s

    pub first_here : First (λ n. applies all n count) 10 number
    first_here =
        subst (λ (ts : List Bool). First (λ n. get_or ts n false) 10 number)
        (sym (marked_tests all is_given count marks held known.pids known.indices s here given_here pid_small index_small))
        (first_true_lem (conditions is_given _ _ s))

    lower : Dec (number < fault.number)
        → Lowest (applies all) 10 (count + 1) (lower_of fault number count).number (lower_of fault number count).place
    lower (yes h) =
        rw (lt-ltb number fault.number h)
        (lowest_replace (applies all) 10 count fault.number fault.place number known.lowest first_here h)
    lower (no h) =
        rw (le-ltb number fault.number (omega arith))
        (lowest_keep (applies all) 10 count fault.number fault.place number known.lowest first_here (omega arith))

    -- with the values that the code holds
    pub passed_next : (after : Fault) (marks₂ held₂ : List Bool) → after ≡ lower_of fault number count → marks₂ ≡ set marks s.pid true
        → held₂ ≡ set held (slot_of s.stream_type s.seen.«record») true → Passed marks₂ held₂ after (count + 1)
    passed_next after marks₂ held₂ is_after is-marks is_held_lem =
        rw (is_after, is-marks, is_held_lem)
        (record {
          pids = marks_step 8192 (pid_at all) count marks s.pid known.pids (ap (λ (t : Stream). t.pid) here);
          indices = marks_step 257 (λ j. slot_of (type_at all j) (record_at all j)) count held (slot_of s.stream_type s.seen.«record») known.indices
              (ap (λ (t : Stream). slot_of t.stream_type t.seen.«record») here);
          lowest = lower (dec_lt number fault.number);
          unset = still_unset (dec_lt number fault.number);
        })
      where
        still_unset : Dec (number < fault.number) → 10 ≤ (lower_of fault number count).number → (lower_of fault number count).place ≡ 0
        still_unset (yes h) = rw (lt-ltb number fault.number h) (λ l. absurd (omega (arith, known.lowest.within)))
        still_unset (no h) = rw (le-ltb number fault.number (omega arith)) known.unset

    -- numbers so far that are at least 3 stay so where the stream fits
    pub stays_above : s.fits ≡ true → 3 ≤ fault.number → (after : Fault) → after ≡ lower_of fault number count → 3 ≤ after.number
    stays_above fits above after is_after = rw is_after (go (dec_lt number fault.number))
      where
        three : 3 ≤ number
        three = rw fits (omega arith)

        go : Dec (number < fault.number) → 3 ≤ (lower_of fault number count).number
        go (yes h) = rw (lt-ltb number fault.number h) three
        go (no h) = rw (le-ltb number fault.number (omega arith)) above

-- 2 is the number of an entry that does not fit, and of no other
module _ (is_given : Bool) (pids indices : List Bool) (s : Stream) where
  pub two_unfit : fault_at is_given pids indices s ≡ 2 → s.fits ≡ false
  two_unfit two = go s.fits refl
    where
      go : (b : Bool) → s.fits ≡ b → s.fits ≡ false
      go true is-fit = (let more : 3 ≤ fault_at is_given pids indices s = rw is-fit (omega arith) in absurd (omega arith))
      go false is-fit = is-fit

  pub no_two_fits : fault_at is_given pids indices s ≢ 2 → s.fits ≡ true
  no_two_fits other = go s.fits refl
    where
      go : (b : Bool) → s.fits ≡ b → s.fits ≡ true
      go true is-fit = is-fit
      go false is-fit = absurd (other (rw is-fit))
