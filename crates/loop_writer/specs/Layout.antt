-- HOW A LOOP IS WRITTEN: an entry as the syntax tables that make it up, each filled by the names of its lines. The tables are those by which a
-- loop is read. An entry's bytes are its tables' bytes in order, and a loop's bytes are its entries' bytes in order. Reserved bits are
-- written as 1.
-- Assumes nothing.
use Rattle.std.specs.Prelude.{ℕ, Bool, List, [], ◌∷◌, length}
use Rattle.combinators.specs.Lists.{any, gather}
use Rattle.syntax.specs.Filled.{Filled, filled, bytes_in, too_wide_in}
use Rattle.records.specs.Records.{record_tables}
use Rattle.loop_entries.specs.declared.Entry.{Entry}
use Rattle.loop_entries.specs.Entries.{entry_head}

-- the descriptor bytes of an entry, none without a record
abbrev pub info_bytes : Entry → List ℕ
info_bytes e = gather bytes_in (record_tables e.«record» e.embedded)

-- The head of an entry, before so many descriptor bytes.
abbrev pub entry_head_table : ℕ → ℕ → ℕ → Filled
entry_head_table stream_type pid infoLength =
    filled entry_head (("stream_type", stream_type) ∷ ("elementary_PID", pid) ∷ ("ES_info_length", infoLength) ∷ [])

-- An entry: its head, in which ES_info_length counts the descriptor bytes, and the descriptor. That length stays below 1,024, so that the
-- upper two bits of its field are 0.
abbrev pub entry_tables : Entry → List Filled
entry_tables e = entry_head_table e.stream_type e.pid (length (info_bytes e)) ∷ record_tables e.«record» e.embedded

abbrev pub entry_bytes : Entry → List ℕ
entry_bytes e = gather bytes_in (entry_tables e)

abbrev pub loop_bytes : List Entry → List ℕ
loop_bytes entries = gather entry_bytes entries

-- whether some value of an entry is too wide for its field
abbrev pub too_wide : Entry → Bool
too_wide e = any too_wide_in (entry_tables e)
