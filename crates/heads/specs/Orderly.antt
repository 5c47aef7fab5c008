-- What refusals 11 to 14 leave: a whole closure, and a table of the right shape in range and in time order; and a frame over them.
-- Assumes nothing.
use Rattle.std.specs.Prelude.{ℕ, ◌<◌, true, false, ◌≡◌, length, get_or}
use Rattle.closure.specs.declared.Layers.{Layers}
use Rattle.closure.specs.Closures.{is_layer, rested_on}
use Rattle.closure.specs.Meaning.{WholeClosure}
use Rattle.sets.specs.Sets.{has}
use Rattle.rows.specs.Table.{Table, rows_in, breaks_order}
use Rattle.assembling.specs.Assemblies.{edges_of}
use Rattle.row_index.specs.Index.{Within}
use Rattle.claims.specs.Claims.{claimed}
use Rattle.heads.specs.Units.{Frame}

-- the target is a layer of the loop, and the set its whole closure
pub record Closed (layers : Layers) (target closure : ℕ) : Type 0 where
  pub here : is_layer layers target ≡ true
  pub whole : WholeClosure layers target closure

pub record Orderly (layers : Layers) (target closure : ℕ) (t : Table) : Type 0 where
  pub closed_over : Closed layers target closure
  pub decoded : length t.decodings ≡ rows_in t
  pub matched : length t.matches ≡ rows_in t
  pub within : Within t.indices
  pub unbroken : (k : ℕ) → k < rows_in t → breaks_order t closure k ≡ false

-- the frame of a closure over a table: what its marks, its sets and its edges say
pub record Framed (layers : Layers) (closure : ℕ) (t : Table) (f : Frame) : Type 0 where
  pub over_closure : f.closure ≡ closure
  pub marks : (k : ℕ) → k < rows_in t → get_or f.claimed k false ≡ claimed layers closure t k
  pub sets_long : length f.own ≡ 64
  pub sets : (layer : ℕ) → has closure layer ≡ true → get_or f.own layer 0 ≡ rested_on layers layer
  pub edges_listed : f.edges ≡ edges_of layers closure
