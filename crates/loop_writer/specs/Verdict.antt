-- WHICH NUMBERS APPLY to entries that are to be written, and at which of them: as reading judges. Of the numbers that reading uses, 2, 4 and 5 apply to
-- no entry that is to be written. The rule of W-201 is that of reading: what it gives follows from the types of all entries and from the hierarchy descriptors
-- that are to be written, and 6 applies to an entry whose mark isn't that.
-- Assumes nothing.
use Rattle.std.specs.Prelude.{ℕ, Bool, true, false, List, map}
use Rattle.loop_entries.specs.declared.Entry.{Entry}
use Rattle.loop_entries.specs.declared.Stream.{Stream}
use Rattle.implied.specs.Rule.{given}
use Rattle.loop_entries.specs.Entries.{pair_of}
use Rattle.loop_faults.specs.Conditions.{applies}

-- An entry as it is judged: a stream that fits, with its record the first and only one.
abbrev pub stream_for : Entry → Stream
stream_for e =
    record {
      fits = true;
      stream_type = e.stream_type;
      pid = e.pid;
      seen = record {
        fits = true;
        wrong_length = false;
        second_record = false;
        «record» = e.«record»;
        embedded = e.embedded;
      };
    }

abbrev pub applies_to : List Entry → ℕ → ℕ → Bool
applies_to entries number k = applies (map stream_for entries) number k

-- W-201: whether two views without a hierarchy descriptor are to be written, and whether the rule gives an entry the implied mark
abbrev pub pair_for : List Entry → Bool
pair_for entries = pair_of (map stream_for entries)

abbrev pub given_to : Bool → Entry → Bool
given_to pair e = given pair e.stream_type
