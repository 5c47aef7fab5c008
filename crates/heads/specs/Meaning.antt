-- What is right, in the words of document 01 and of W-204 of document 02, with no word of how it is found: assemblies, which heads have none (15), the rows of a
-- unit with their lags, and which heads share a row (16). Which rows are claimed, and which are heads, stands in Meaning of the crate `claims`.
-- proofs/Meant.antt has the laws that join this to what is computed.
-- Assumes nothing.
use Rattle.std.specs.Prelude.{ℕ, ◌<◌, List, [], ◌∷◌, map, ◌≡◌, ℤ}
use Rattle.clock.specs.Clock.{Lag}
use Rattle.closure.specs.declared.Layers.{Layers}
use Rattle.closure.specs.Meaning.{Names, RestsOn}
use Rattle.combinators.specs.Ascending.{Ascending}
use Rattle.rows.specs.Table.{Table, rows_in, layer_of, decoding_of, match_of}
use Rattle.claims.specs.Meaning.{Head}

-- 'An assembly of a target row chooses one row for each closure layer, that row for the target, such that for each layer and each of its
-- embedded layers the decoding time of the lower row equals the match time of the upper row.' Of a head, in W-204's words: 'its assembly over the closure
-- of its own layer', so that `top` is that layer.
pub record Assembles (layers : Layers) (top : ℕ) (t : Table) (head : ℕ) (choice : ℕ → ℕ) : Type 0 where
  pub of_target : choice top ≡ head
  pub row : (layer : ℕ) → RestsOn layers top layer → choice layer < rows_in t
  pub of_layer : (layer : ℕ) → RestsOn layers top layer → layer_of t (choice layer) ≡ layer
  pub paired : (upper lower : ℕ) → RestsOn layers top upper → Names layers upper lower
      → decoding_of t (choice lower) ≡ match_of t (choice upper)

abbrev pub AssemblesOwn : Layers → Table → ℕ → (ℕ → ℕ) → Type 0
AssemblesOwn layers t head choice = Assembles layers (layer_of t head) t head choice

-- 15: a head has no assembly
pub record NoAssembly (layers : Layers) (target : ℕ) (t : Table) (k : ℕ) : Type 0 where
  pub is_head : Head layers target t k
  pub none : (choice : ℕ → ℕ) → AssemblesOwn layers t k choice → ⊥

-- A row stands in the unit of a head: the assembly chooses it for some layer that the head's own rests on.
pub record InUnit (layers : Layers) (top : ℕ) (t : Table) (head row : ℕ) : Type 0 where
  pub choice : ℕ → ℕ
  pub assembles : Assembles layers top t head choice
  pub layer : ℕ
  pub in_closure : RestsOn layers top layer
  pub chosen : choice layer ≡ row

abbrev pub InUnitOf : Layers → Table → ℕ → ℕ → Type 0
InUnitOf layers t head row = InUnit layers (layer_of t head) t head row

-- 16: a 'head in the table that shares a row with a head before it'
pub record SharesRow (layers : Layers) (target : ℕ) (t : Table) (k : ℕ) : Type 0 where
  pub is_head : Head layers target t k
  pub earlier : ℕ
  pub before : earlier < k
  pub earlier_head : Head layers target t earlier
  pub row : ℕ
  pub in_unit : InUnitOf layers t k row
  pub in_earlier_unit : InUnitOf layers t earlier row

-- 'a lag beside each': 'The lag is against the head', row by row
pub data LagsBeside (t : Table) (head : ℕ) : List ℕ → List ℤ → Type 0 where
  no_row : LagsBeside t head [] []
  beside : {row : ℕ} {lag : ℤ} {rows : List ℕ} {lags : List ℤ} → Lag (decoding_of t row) (decoding_of t head) lag → LagsBeside t head rows lags
      → LagsBeside t head (row ∷ rows) (lag ∷ lags)

-- A UNIT is a list: the rows that the assembly of a head chooses, 'each in rising layer index', with a lag beside each.
pub record UnitOf (layers : Layers) (top : ℕ) (t : Table) (head : ℕ) (rows : List ℕ) (lags : List ℤ) : Type 0 where
  pub choice : ℕ → ℕ
  pub assembles : Assembles layers top t head choice
  pub members : List ℕ
  pub closure_layers : Ascending (RestsOn layers top) members
  pub row_numbers : rows ≡ map choice members
  pub lags_beside : LagsBeside t head rows lags
