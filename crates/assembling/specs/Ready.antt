-- What assembling a row asks of the index of a table's rows.
-- Assumes nothing.
use Rattle.std.specs.Prelude.{ℕ, ◌<◌, List, ◌≡◌, length, get_or}
use Rattle.rows.specs.Table.{Table, rows_in}
use Rattle.row_index.specs.Index.{Sorted, Rising}
use Rattle.assembling.specs.Assemblies.{lower_of}

-- it is that of the table, and every layer that an edge leads to is a rising one
pub record Ready (t : Table) (starts order edges : List ℕ) : Type 0 where
  pub sorted : Sorted t.indices t.decodings starts order
  pub matched : length t.matches ≡ rows_in t
  pub rising : (i : ℕ) → i < length edges → Rising t (lower_of (get_or edges i 0))
