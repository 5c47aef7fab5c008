-- What is right, in the words of W-204 of document 02, with no word of how it is found: the order in which units come, and the lists that hold them.
-- proofs/Meant.antt has the laws that join this to what is computed.
-- Assumes nothing.
use Rattle.std.specs.Prelude.{ℕ, ◌<◌, List, [], ◌∷◌, ◌++◌, ◌≡◌, ℤ, length, get_or, ◌<ℤ◌}
use Rattle.closure.specs.declared.Layers.{Layers}
use Rattle.rows.specs.Table.{Table, layer_of}
use Rattle.claims.specs.Meaning.{Head}
use Rattle.spans.specs.Meaning.{Distance}
use Rattle.heads.specs.Meaning.{UnitOf}

-- 'Units come in order of the signed 33-bit distance of the head's decoding time from that of the first closure row in the table, then by lower
-- layer, then by row.'
pub data ComesBefore (layers : Layers) (target : ℕ) (t : Table) (head later : ℕ) : Type 0 where
  lower_distance : {distance farther : ℤ} → Distance layers target t head distance → Distance layers target t later farther
      → distance <ℤ farther → ComesBefore layers target t head later
  lower_layer : {distance : ℤ} → Distance layers target t head distance → Distance layers target t later distance
      → layer_of t head < layer_of t later → ComesBefore layers target t head later
  lower_row : {distance : ℤ} → Distance layers target t head distance → Distance layers target t later distance
      → layer_of t head ≡ layer_of t later → head < later → ComesBefore layers target t head later

-- a list of exactly the numbers of which something holds, each before those that come after it
pub record AllInOrder (P : ℕ → Type 0) (Before : ℕ → ℕ → Type 0) (list : List ℕ) : Type 0 where
  pub each : (i : ℕ) → i < length list → P (get_or list i 0)
  pub all : (n : ℕ) → P n → (i : ℕ) × (i < length list) × (get_or list i 0 ≡ n)
  pub in_order : (i j : ℕ) → i < j → j < length list → Before (get_or list i 0) (get_or list j 0)

-- the heads of a table, in the order of their units
abbrev pub HeadsInOrder : Layers → ℕ → Table → List ℕ → Type 0
HeadsInOrder layers target t heads = AllInOrder (Head layers target t) (ComesBefore layers target t) heads

-- The units of some heads, one after another: 'each unit now reports its own size', and beside the sizes stand the row numbers as one list, and
-- their lags as another.
pub data UnitsOf (layers : Layers) (t : Table) : List ℕ → List ℕ → List ℕ → List ℤ → Type 0 where
  no_unit : UnitsOf layers t [] [] [] []
  next_unit : {head : ℕ} {unit : List ℕ} {beside : List ℤ} {heads sizes rows : List ℕ} {lags : List ℤ}
      → UnitOf layers (layer_of t head) t head unit beside → UnitsOf layers t heads sizes rows lags
      → UnitsOf layers t (head ∷ heads) (length unit ∷ sizes) (unit ++ rows) (beside ++ lags)
