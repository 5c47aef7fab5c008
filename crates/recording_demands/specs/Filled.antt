-- THE TABLE SO FILLED: what holds of the rows of every recording, sound or damaged. Each row is one that demand 2 pairs 'by TREF or else by decoding time', and none is out of
-- range, so that of 13 the number of rows alone is left.
-- Assumes nothing.
use Rattle.std.specs.Prelude.{ℕ, ◌<◌, List, ◌↔◌, ◌≡◌, false, length}
use Rattle.combinators.specs.Lists.{Nth}
use Rattle.clock.specs.Clock.{ticks}
use Rattle.scanning.specs.declared.events.Row.{Row}
use Rattle.scanning.specs.Events.{layers}
use Rattle.rows.specs.Table.{Table, rows_in, layer_of, decoding_of, match_of}
use Rattle.rows.specs.Meaning.{NoRow, WrongShape, RowOutOfRange}

-- a row in range, whose match time is its decoding time where no TREF was sent
pub record RowFits (row : Row) : Type 0 where
  pub six_bits : row.layer < layers
  pub decoding_in_33_bits : row.decoding < ticks
  pub match_in_33_bits : row.matching < ticks
  pub without_tref : row.tref_sent ≡ false → row.matching ≡ row.decoding

-- a table of these rows: row k of the table is row k of the recording, in the three columns that joining reads
pub record Fills (rows : List Row) (t : Table) : Type 0 where
  pub as_many : rows_in t ≡ length rows
  pub each : (k : ℕ) (row : Row) → Nth rows k row → (layer_of t k ≡ row.layer) × (decoding_of t k ≡ row.decoding) × (match_of t k ≡ row.matching)
  pub fits : (k : ℕ) (row : Row) → Nth rows k row → RowFits row
  -- of 13: no row is out of range, and the shape is wrong exactly where there are more rows than there may be
  pub in_range : NoRow t (RowOutOfRange t)
  pub shape : (most : ℕ) → WrongShape most t ↔ (most < length rows)
