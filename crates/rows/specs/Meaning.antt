-- What is right, in the words of document 01, with no word of how it is found: the rows of a table that 13 and 14 name. `most` is how many rows a table
-- may have: 512, where nobody says more. proofs/Meant.antt has the laws that join this to what is computed.
-- Assumes nothing.
use Rattle.std.specs.Prelude.{ℕ, ◌≤◌, ◌<◌, ◌≡◌, length}
use Rattle.clock.specs.Clock.{ticks, half, ForwardDistance}
use Rattle.closure.specs.declared.Layers.{Layers}
use Rattle.closure.specs.Meaning.{RestsOn}
use Rattle.rows.specs.Table.{Table, rows_in, layer_of, decoding_of, match_of}

-- the earliest row of the table of which something holds; and that it holds of no row
pub record FirstRow (t : Table) (P : ℕ → Type 0) (k : ℕ) : Type 0 where
  pub inside : k < rows_in t
  pub holds : P k
  pub earliest : (j : ℕ) → j < k → P j → ⊥

abbrev pub NoRow : Table → (ℕ → Type 0) → Type 0
NoRow t P = (k : ℕ) → k < rows_in t → P k → ⊥

-- ---- single rows: 13 and 14

-- 13: 'row columns of unequal length, more than 512 rows (place 0)'
pub data WrongShape (most : ℕ) (t : Table) : Type 0 where
  unequal_decodings : (length t.decodings ≡ rows_in t → ⊥) → WrongShape most t
  unequal_matches : (length t.matches ≡ rows_in t → ⊥) → WrongShape most t
  too_many_rows : most < rows_in t → WrongShape most t

-- 'or a row out of range': 'A row is out of range when its index is above 63 or either time is 2^33 or more.'
pub data RowOutOfRange (t : Table) (k : ℕ) : Type 0 where
  index_above_63 : 63 < layer_of t k → RowOutOfRange t k
  decoding_time : ticks ≤ decoding_of t k → RowOutOfRange t k
  match_time : ticks ≤ match_of t k → RowOutOfRange t k

-- 'the forward distance of decoding times from that layer's first row'
pub record Ahead (t : Table) (k distance : ℕ) : Type 0 where
  pub first : ℕ
  pub first_of_layer : FirstRow t (λ j. layer_of t j ≡ layer_of t k) first
  pub forward : ForwardDistance (decoding_of t first) (decoding_of t k) distance

-- 'from row to row': a row, and the one before it of the same layer
pub record FromRowToRow (t : Table) (j k : ℕ) : Type 0 where
  pub before : j < k
  pub same_layer : layer_of t j ≡ layer_of t k
  pub none_between : (i : ℕ) → j < i → i < k → layer_of t i ≡ layer_of t k → ⊥

-- 14: 'time order broken in a closure layer', at a row. 'Within each closure layer, the forward distance of decoding times from that layer's
-- first row must rise strictly from row to row and stay below 2^32.'
pub data BreaksOrder (layers : Layers) (target : ℕ) (t : Table) (k : ℕ) : Type 0 where
  not_below : {distance : ℕ} → RestsOn layers target (layer_of t k) → Ahead t k distance → half ≤ distance → BreaksOrder layers target t k
  not_rising : {j earlier distance : ℕ} → RestsOn layers target (layer_of t k) → FromRowToRow t j k → Ahead t j earlier → Ahead t k distance
      → distance ≤ earlier → BreaksOrder layers target t k

-- What 13 and 14 leave: a table in range and in order.
pub record InOrder (most : ℕ) (layers : Layers) (target : ℕ) (t : Table) : Type 0 where
  pub shape : WrongShape most t → ⊥
  pub range : NoRow t (RowOutOfRange t)
  pub order : NoRow t (BreaksOrder layers target t)
