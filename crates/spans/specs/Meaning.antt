-- What is right, in the words of document 02, W-204, with no word of how it is found: the closure rows of a table, the distance of each from the
-- first of them, and 18.
-- proofs/Meant.antt has the laws that join this to what is computed.
-- Assumes nothing.
use Rattle.std.specs.Prelude.{ℕ, ◌<◌, ℤ, pos, ◌-ℤ◌, ◌≤ℤ◌}
use Rattle.clock.specs.Clock.{half, Lag}
use Rattle.closure.specs.declared.Layers.{Layers}
use Rattle.closure.specs.Meaning.{RestsOn}
use Rattle.rows.specs.Table.{Table, rows_in, layer_of, decoding_of}

-- 'a closure row': a row of the table whose layer the target rests on
pub record ClosureRow (layers : Layers) (target : ℕ) (t : Table) (k : ℕ) : Type 0 where
  pub inside : k < rows_in t
  pub in_closure : RestsOn layers target (layer_of t k)

-- 'the first closure row in the table'
pub record FirstClosureRow (layers : Layers) (target : ℕ) (t : Table) (k : ℕ) : Type 0 where
  pub closure_row : ClosureRow layers target t k
  pub earliest : (j : ℕ) → j < k → ClosureRow layers target t j → ⊥

-- 'the signed 33-bit distance' of a row's decoding time 'from that of the first closure row in the table': by the rule of the lag, so that it
-- lies in -2^32 to 2^32-1
pub record Distance (layers : Layers) (target : ℕ) (t : Table) (k : ℕ) (distance : ℤ) : Type 0 where
  pub first : ℕ
  pub first_closure_row : FirstClosureRow layers target t first
  pub signed : Lag (decoding_of t k) (decoding_of t first) distance

-- 18: 'when the distances of closure rows from that first row span 2^32 or more': the distance of one closure row less that of another is 2^32
-- or more. (The greatest distance less the least is then, and only then.)
pub record SpansTooFar (layers : Layers) (target : ℕ) (t : Table) : Type 0 where
  pub later : ℕ
  pub later_row : ClosureRow layers target t later
  pub greatest : ℤ
  pub later_distance : Distance layers target t later greatest
  pub earlier : ℕ
  pub earlier_row : ClosureRow layers target t earlier
  pub least : ℤ
  pub earlier_distance : Distance layers target t earlier least
  pub span : pos half ≤ℤ (greatest -ℤ least)
