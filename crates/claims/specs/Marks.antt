-- The marks of claimed rows, one place for each row of the table, in a list that may be longer: what marking asks, and what it leaves.
-- Assumes nothing.
use Rattle.std.specs.Prelude.{ℕ, ◌≤◌, ◌<◌, Bool, true, false, cond, ◌&&◌, List, ◌≡◌, eqb, ltb, length, get_or, set}
use Rattle.closure.specs.declared.Layers.{Layers}
use Rattle.sets.specs.Sets.{has}
use Rattle.rows.specs.Table.{Table, rows_in, layer_of, decoding_of}
use Rattle.row_index.specs.Index.{Within, Sorted, Rising}
use Rattle.claims.specs.Claims.{embeds}

-- one value for each of the first places, and what stood there before at those beyond them
pub record Stands (count : ℕ) (value : ℕ → Bool) (before after : List Bool) : Type 0 where
  pub as_long : length after ≡ length before
  pub at : (k : ℕ) → k < count → get_or after k false ≡ value k
  pub beyond : (k : ℕ) → count ≤ k → get_or after k false ≡ get_or before k false

-- a mark at a row, where it is one of the first `count`
abbrev pub marked_at : ℕ → ℕ → List Bool → List Bool
marked_at count row marks = cond (ltb row count) (set marks row true) marks

-- the rows of some layers that have a decoding time
abbrev pub timed_in : Table → ℕ → ℕ → ℕ → Bool
timed_in t layers time k = has layers (layer_of t k) && eqb (decoding_of t k) time

-- what looking for the rows of some layers asks: an index of the table, and layers whose times rise
pub record Sought (t : Table) (layers : ℕ) (starts order : List ℕ) : Type 0 where
  pub sorted : Sorted t.indices t.decodings starts order
  pub rising : (layer : ℕ) → has layers layer ≡ true → Rising t layer

-- what looking for the claimed rows asks: an index of the table by layer, a match time for each row, and times that rise in every layer that a
-- closure layer embeds
pub record Claimable (layers : Layers) (closure : ℕ) (t : Table) (starts order : List ℕ) : Type 0 where
  pub sorted : Sorted t.indices t.decodings starts order
  pub matched : length t.matches ≡ rows_in t
  pub within : Within t.indices
  pub rising : (upper lower : ℕ) → embeds layers closure upper lower ≡ true → Rising t lower
