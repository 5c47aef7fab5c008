-- What is right, in the words of W-204 of document 02, with no word of how it is found: which rows are claimed, and which head a unit.
-- proofs/Meant.antt has the laws that join this to what is computed.
-- Assumes nothing.
use Rattle.std.specs.Prelude.{ℕ, ◌<◌, List, ◌≡◌}
use Rattle.closure.specs.declared.Layers.{Layers}
use Rattle.closure.specs.Meaning.{Names, RestsOn}
use Rattle.combinators.specs.Ascending.{Ascending}
use Rattle.rows.specs.Table.{Table, rows_in, layer_of, decoding_of, match_of}

-- 'a row of a closure layer that embeds its layer has a match time equal to its decoding time': row j claims row k, whether or not it has an
-- assembly itself
pub record Claims (layers : Layers) (target : ℕ) (t : Table) (j k : ℕ) : Type 0 where
  pub inside : j < rows_in t
  pub closure_layer : RestsOn layers target (layer_of t j)
  pub embeds : Names layers (layer_of t j) (layer_of t k)
  pub match_time : match_of t j ≡ decoding_of t k

-- 'A closure row is claimed if' there is one. (What a closure layer embeds is of the closure too, so that this need not be asked.)
pub record Claimed (layers : Layers) (target : ℕ) (t : Table) (k : ℕ) : Type 0 where
  pub claimer : ℕ
  pub claims : Claims layers target t claimer k

-- 'Every unclaimed closure row now heads a unit'
pub record Head (layers : Layers) (target : ℕ) (t : Table) (k : ℕ) : Type 0 where
  pub inside : k < rows_in t
  pub closure_row : RestsOn layers target (layer_of t k)
  pub unclaimed : Claimed layers target t k → ⊥

-- all of them, in table order
abbrev pub Heads : Layers → ℕ → Table → List ℕ → Type 0
Heads layers target t heads = Ascending (Head layers target t) heads
