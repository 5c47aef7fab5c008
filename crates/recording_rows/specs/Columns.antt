-- Rows laid into columns that a caller lends: row k stands at place k of each.
-- Assumes nothing.
use Rattle.std.specs.Prelude.{ℕ, min, List, map, length}
use Rattle.std.proofs.lemmas.List.Edits.{sets}
use Rattle.buffers.specs.Buffers.{over}
use Rattle.syntax.specs.Filled.{bit_of}
use Rattle.scanning.specs.declared.events.Row.{Row}
use Rattle.unit_starts.specs.Finding.{packet_in}

-- layer index, decoding time, match time, whether a TREF was sent (1) or not (0), and the number of the packet in which the unit starts
pub record Columns : Type 0 where
  pub indices : List ℕ
  pub decodings : List ℕ
  pub matches : List ℕ
  pub trefs : List ℕ
  pub packets : List ℕ

abbrev pub columns : List ℕ → List ℕ → List ℕ → List ℕ → List ℕ → Columns
columns indices decodings matches trefs packets =
    record { indices = indices; decodings = decodings; matches = matches; trefs = trefs; packets = packets }

-- what each column has of a row
abbrev pub index_in : Row → ℕ
index_in row = row.layer

abbrev pub decoding_in : Row → ℕ
decoding_in row = row.decoding

abbrev pub match_in : Row → ℕ
match_in row = row.matching

abbrev pub tref_in : Row → ℕ
tref_in row = bit_of row.tref_sent

-- the columns beside that of the packets
pub record Beside : Type 0 where
  pub indices : List ℕ
  pub decodings : List ℕ
  pub matches : List ℕ
  pub trefs : List ℕ

abbrev pub beside : List ℕ → List ℕ → List ℕ → List ℕ → Beside
beside indices decodings matches trefs = record { indices = indices; decodings = decodings; matches = matches; trefs = trefs }

-- rows stored from a place on
abbrev pub stored_beside : ℕ → List Row → Beside → Beside
stored_beside at rows c =
    beside (sets c.indices at (map index_in rows)) (sets c.decodings at (map decoding_in rows)) (sets c.matches at (map match_in rows))
    (sets c.trefs at (map tref_in rows))

abbrev pub room_beside : Beside → ℕ
room_beside c = min (length c.indices) (min (length c.decodings) (min (length c.matches) (length c.trefs)))

-- rows stored from the front on, with the numbers of their packets
abbrev pub stored_all : List Row → List ℕ → Columns → Columns
stored_all rows numbers c =
    columns (sets c.indices 0 (map index_in rows)) (sets c.decodings 0 (map decoding_in rows)) (sets c.matches 0 (map match_in rows))
    (sets c.trefs 0 (map tref_in rows)) (sets c.packets 0 numbers)

-- rows over the front of the columns, and beyond them what stood there
abbrev pub over_all : List Row → Columns → Columns
over_all rows c =
    columns (over (map index_in rows) c.indices) (over (map decoding_in rows) c.decodings) (over (map match_in rows) c.matches)
    (over (map tref_in rows) c.trefs) (over (map packet_in rows) c.packets)

-- the rows that all columns have room for
abbrev pub room_in : Columns → ℕ
room_in c = min (length c.indices) (min (length c.decodings) (min (length c.matches) (min (length c.trefs) (length c.packets))))
