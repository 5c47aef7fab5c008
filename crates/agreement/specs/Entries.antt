-- Whether a reading accepts the loop of some bytes, and the entries that it answers. The laws of the two readings' entries stand in proofs/Entries.antt.
-- Assumes nothing.
use Rattle.std.specs.Prelude.{ℕ, ◌≡◌, Ok}
use mathlib.Core.List.{List}
use Rattle.vocabulary.specs.declared.stream_types.Reading.{Reading}
use Rattle.loop_entries.specs.declared.Entry.{Entry}
use Rattle.es_loop.specs.Reading.{loop_read}
use Rattle.loop_layers.specs.Closures.{entries_read}

-- ---- the two readings of the bytes

-- a reading accepts the loop of these bytes; and its entries
abbrev pub IsAccepted : Reading → List ℕ → Type 0
IsAccepted reading bytes = (loop_read reading bytes).outcome ≡ Ok tt

abbrev pub entries_in : Reading → List ℕ → List Entry
entries_in reading bytes = entries_read (loop_read reading bytes)
