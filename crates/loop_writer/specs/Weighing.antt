-- WHAT ENTRIES COME TO that are to be written: how many bytes they take, and the lowest number that applies to them, at its earliest place.
-- Assumes nothing.
use Rattle.std.specs.Prelude.{ℕ, ◌+◌, ◌≤◌, ◌≡◌, Bool, cond, List, ltb, length, Err}
use Rattle.combinators.specs.Lowest.{Lowest}
use Rattle.vocabulary.specs.declared.refusal.Refusal.TheVariants.{LoopTooLong}
use Rattle.loop_entries.specs.declared.Entry.{Entry}
use Rattle.loop_faults.specs.Conditions.{fault_at, lower_of, refusal_of}
use Rattle.loop_writer.specs.Layout.{entry_bytes, loop_bytes}
use Rattle.loop_writer.specs.Verdict.{stream_for, applies_to}
use Rattle.loop_writer.specs.declared.weighing.Weighed.{Weighed}
use Rattle.loop_writer.specs.Answer.{Written}
use Rattle.loop_writer.specs.Writing.{in_room}

abbrev pub nothing_weighed : Weighed
nothing_weighed = record { size = 0; fault = record { number = 10; place = 0 } }

-- one entry more, given whether the rule of W-201 gives it the implied mark, with marks for the PIDs and the layer indices before it
abbrev pub weighed_next : Bool → List Bool → List Bool → Weighed → Entry → ℕ → Weighed
weighed_next is_given pids indices so_far entry place =
    record {
      size = so_far.size + length (entry_bytes entry);
      fault = lower_of so_far.fault (fault_at is_given pids indices (stream_for entry)) place;
    }

-- what entries come to
pub record Weighs (entries : List Entry) (weighed : Weighed) : Type 0 where
  pub size : weighed.size ≡ length (loop_bytes entries)
  pub lowest : Lowest (applies_to entries) 10 (length entries) weighed.fault.number weighed.fault.place
  -- past all numbers the place is 0
  pub unset : 10 ≤ weighed.fault.number → weighed.fault.place ≡ 0

-- 1, then the lowest number that applies, then 17, or the number of bytes
abbrev pub decided_by : Weighed → ℕ → Written
decided_by weighed room =
    cond (ltb 1008 weighed.size) (Err LoopTooLong)
    (cond (ltb weighed.fault.number 10) (Err (refusal_of weighed.fault.number weighed.fault.place)) (in_room room weighed.size))
