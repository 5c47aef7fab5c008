-- WHAT READING SEES OF WHAT WAS WRITTEN, under the 2015 reading, entry by entry.
-- Assumes nothing.
use Rattle.std.specs.Prelude.{◌≡◌, Bool, false, cond, not, ◌&&◌, ◌||◌, List, [], ◌∷◌, map, length, take}
use Rattle.combinators.specs.Padding.{pad_to}
use Rattle.vocabulary.specs.declared.LayerIndex.{LayerIndex}
use Rattle.vocabulary.specs.declared.stream_types.Reading.TheVariants.{Edition2015}
use Rattle.vocabulary.specs.StreamTypes.{known}
use Rattle.records.specs.declared.Record.{Record}
use Rattle.records.specs.declared.Record.TheVariants.{NoRecord, Hierarchy, Extension, Implied}
use Rattle.extension.specs.Extension.{no_layer}
use Rattle.loop_entries.specs.declared.Entry.{Entry}
use Rattle.implied.specs.Marking.{marked_record}
use Rattle.judging.specs.Meaning.{has_descriptor}
use Rattle.loop_writer.specs.Verdict.{pair_for, given_to}

-- THE ENTRIES READ. The layers that a record lists, and blanks after them: what stands beyond the count in the array is not written.
abbrev pub layers_kept : Record → List LayerIndex → List LayerIndex
layers_kept NoRecord layers = []
layers_kept (Hierarchy h) layers = []
layers_kept (Extension x) layers = take x.num_embedded_layers layers
layers_kept Implied layers = []

-- an entry with another record, and with blanks beyond the count
abbrev pub with_record : Record → Entry → Entry
with_record r e =
    record {
      stream_type = e.stream_type;
      pid = e.pid;
      «record» = r;
      embedded = pad_to 63 no_layer (layers_kept e.«record» e.embedded);
    }

-- an entry with blanks beyond the count
abbrev pub normal : Entry → Entry
normal e = with_record e.«record» e

-- a descriptor on a stream type that the 2015 reading does not know
abbrev pub on_unknown_type : Entry → Bool
on_unknown_type e = has_descriptor e.«record» && not (known Edition2015 e.stream_type)

-- W-201: an implied mark that isn't what the rule gives, by whether it gives one
abbrev pub wrong_mark : Bool → Record → Bool
wrong_mark is_given NoRecord = is_given
wrong_mark is_given (Hierarchy h) = false
wrong_mark is_given (Extension x) = false
wrong_mark is_given Implied = not is_given

-- the two causes of 6 of which the bytes say nothing, in entries with the two views or without
abbrev pub writers_own_six : Bool → Entry → Bool
writers_own_six pair e = on_unknown_type e || wrong_mark (given_to pair e) e.«record»

-- what the descriptor bytes of an entry show: an implied mark does not stand in them
abbrev pub without_mark : Record → Record
without_mark NoRecord = NoRecord
without_mark (Hierarchy h) = Hierarchy h
without_mark (Extension x) = Extension x
without_mark Implied = NoRecord

-- an entry as it is seen alone: of a type that the 2015 reading does not know no record is seen
abbrev pub without_record : Entry → Entry
without_record e = record { stream_type = e.stream_type; pid = e.pid; «record» = NoRecord; embedded = pad_to 63 no_layer [] }

abbrev pub alone_as : Entry → Entry
alone_as e = cond (known Edition2015 e.stream_type) (with_record (without_mark e.«record») e) (without_record e)

-- an entry as it is read again, beside the two views or not: with the mark that the rule gives
abbrev pub remarked : Bool → Entry → Record
remarked pair e = marked_record pair e.stream_type (without_mark e.«record»)

abbrev pub read_as : Bool → Entry → Entry
read_as pair e = cond (known Edition2015 e.stream_type) (with_record (remarked pair e) e) (without_record e)

abbrev pub read_again : List Entry → List Entry
read_again es = map (read_as (pair_for es)) es

-- ---- THE LOOP

-- entries as their type has them: each with an array of 63 places
pub data Typed : List Entry → Type 0 where
  none : Typed []
  one_more : {e : Entry} {es : List Entry} → length e.embedded ≡ 63 → Typed es → Typed (e ∷ es)
