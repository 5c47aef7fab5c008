-- READING WHAT WAS WRITTEN: what it is that a loop with a set is read back. That it is stands in proofs/ReadBack.antt, `read_back_set`.
-- Assumes nothing.
use Prim.Native.Nat.{ℕ}
use Rattle.std.specs.Prelude.{◌≡◌, List, map, length, Ok}
use Rattle.combinators.specs.Padding.{pad_to}
use Rattle.vocabulary.specs.declared.stream_types.Reading.TheVariants.{Edition2015}
use Rattle.loop_entries.specs.declared.Entry.{Entry}
use Rattle.es_loop.specs.declared.reader.LoopRead.{LoopRead}
use Rattle.loop_entries.specs.Entries.{blank_entry}
use Rattle.es_loop.specs.Reading.{loop_read}
use Rattle.loop_round_trip.specs.ReadBack.{normal}
use Rattle.mvc_extension.specs.declared.MvcExtension.{MvcExtension}
use Rattle.stereo_set.specs.Set.{accepted_set}
use Rattle.stereo_set.specs.Reading.{stereo_read}
use Rattle.stereo_set.specs.Two.{TwoLayers}

-- every entry, with blanks in each array beyond its count
module _ (entries : List Entry) where
  abbrev pub whole_read : LoopRead
  whole_read = record { outcome = Ok tt; count = length entries; entries = pad_to 201 blank_entry (map normal entries) }

-- WHAT WAS WRITTEN IS READ BACK: of every call that is accepted, by the bytes that the buffer then holds.
pub record ReadBack (x y : MvcExtension) (entries : List Entry) (written : List ℕ) : Type 0 where
  pub base : Entry
  pub second : Entry
  pub two : TwoLayers entries base second
  pub the_loop : loop_read Edition2015 written ≡ record { outcome = Ok tt; count = length entries; entries = pad_to 201 blank_entry (map normal entries) }
  pub the_set : stereo_read written ≡ accepted_set (normal base) x (normal second) y
