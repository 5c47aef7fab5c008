-- The entries of an elementary-stream loop: how its bytes are cut into entries, what a reading sees of each, and the marks of two views that have no
-- hierarchy descriptor.
-- Assumes nothing.
use Rattle.std.specs.Prelude.{ℕ, ◌+◌, Bool, false, cond, List, [], ◌∷◌, map, ltb, length}
use Rattle.combinators.specs.Padding.{pad_to}
use Rattle.framing.specs.Pieces.{Item, whole, broken, cut}
use Rattle.syntax.specs.Table.{Table, value, reserved}
use Rattle.syntax.specs.Named.{given_to, read_by}
use Rattle.vocabulary.specs.declared.stream_types.Reading.{Reading}
use Rattle.vocabulary.specs.StreamTypes.{known}
use Rattle.records.specs.declared.Record.TheVariants.{NoRecord}
use Rattle.descriptors.specs.declared.looking.Seen.{Seen}
use Rattle.extension.specs.Extension.{no_layer}
use Rattle.descriptors.specs.declared.looking.Named.{Named}
use Rattle.descriptors.specs.Looking.{seen_of, nothing_seen}
use Rattle.descriptors.specs.Finding.{named_by}
use Rattle.implied.specs.Rule.{Shown, implied_pair}
use Rattle.implied.specs.Marking.{is_described, marked_seen}
use Rattle.loop_entries.specs.declared.Entry.{Entry}
use Rattle.loop_entries.specs.declared.Stream.{Stream}

-- Table 2-33 of H.222.0, the loop of the TS program map section: what stands before the descriptors of an entry
abbrev pub entry_head : Table
entry_head = value 8 "stream_type" ∷ reserved 3 ∷ value 13 "elementary_PID" ∷ reserved 4 ∷ value 12 "ES_info_length" ∷ []

abbrev pub stream_type : List ℕ → ℕ
stream_type head = given_to "stream_type" (read_by entry_head head)

abbrev pub elementary_pid : List ℕ → ℕ
elementary_pid head = given_to "elementary_PID" (read_by entry_head head)

abbrev pub es_info_length : List ℕ → ℕ
es_info_length head = given_to "ES_info_length" (read_by entry_head head)

-- the bytes that the entry at the front takes; fewer than a head is never enough
abbrev pub size_of : List ℕ → ℕ
size_of left = cond (ltb (length left) 5) 5 (5 + es_info_length left)

-- 'Entries of other types are framed, and their descriptors are not looked into.'
abbrev pub seen_in : Reading → ℕ → List ℕ → Seen
seen_in reading t info = cond (known reading t) (seen_of reading info) nothing_seen

-- bytes that hold no whole entry: they have no PID (each is below 8,192), no type and no descriptors
abbrev pub no_stream : Stream
no_stream = record { fits = false; stream_type = 0; pid = 8192; seen = nothing_seen }

-- An entry that does not fit in the loop, or one of whose descriptors does not fit in it, does not fit.
abbrev pub stream_of : Reading → Item → Stream
stream_of reading (whole head info) =
    record {
      fits = (seen_in reading (stream_type head) info).fits;
      stream_type = stream_type head;
      pid = elementary_pid head;
      seen = seen_in reading (stream_type head) info;
    }
stream_of reading broken = no_stream

-- the entries of a loop, in order, as each is seen alone
abbrev pub streams_alone : Reading → List ℕ → List Stream
streams_alone reading bytes = map (stream_of reading) (cut 5 es_info_length bytes)

-- W-201, a step over the whole list of entries, after their records are read and before they are judged: what the rule looks at of a stream, whether a loop
-- has the two views without a hierarchy descriptor, and each stream with the mark that the rule gives it.
abbrev pub shown_of : Stream → Shown
shown_of s = record { type = s.stream_type; described = is_described s.seen.«record» }

abbrev pub pair_of : List Stream → Bool
pair_of streams = implied_pair (map shown_of streams)

abbrev pub marked_stream : Bool → Stream → Stream
marked_stream pair s =
    record {
      fits = s.fits;
      stream_type = s.stream_type;
      pid = s.pid;
      seen = marked_seen pair s.stream_type s.seen;
    }

abbrev pub marked_streams : List Stream → List Stream
marked_streams streams = map (marked_stream (pair_of streams)) streams

-- a stream's record, and the set of the layers that it names
abbrev pub named_of : Stream → Named
named_of s = named_by s.stream_type s.seen

-- the entries of a loop, in order
abbrev pub streams_of : Reading → List ℕ → List Stream
streams_of reading bytes = marked_streams (streams_alone reading bytes)

-- WHAT IS ANSWERED. Every entry in loop order: stream type, PID and its record, if any.
abbrev pub entry_of : Stream → Entry
entry_of s =
    record {
      stream_type = s.stream_type;
      pid = s.pid;
      «record» = s.seen.«record»;
      embedded = s.seen.embedded;
    }

abbrev pub blank_entry : Entry
blank_entry = record { stream_type = 0; pid = 0; «record» = NoRecord; embedded = pad_to 63 no_layer [] }

-- entries in their array
abbrev pub entries_of : List Stream → List Entry
entries_of streams = pad_to 201 blank_entry (map entry_of streams)
