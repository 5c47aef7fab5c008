-- The row table of document 01, 'Rows and units', and what is judged on single rows of it: refusals 13 and 14.
-- Assumes nothing.
use Rattle.std.specs.Prelude.{ℕ, Bool, not, cond, ◌&&◌, ◌||◌, List, eqb, leb, ltb, length, get_or}
use Rattle.clock.specs.Clock.{ticks, half, distance_of}
use Rattle.combinators.specs.Below.{some, seek}
use Rattle.sets.specs.Sets.{has}

-- 'A row is layer index (0 to 63), decoding time, match time, one per component in arrival order.' The caller lends the three as
-- columns; row k has what stands at place k of each, and rows count from 0.
pub record Table : Type 0 where
  pub indices : List ℕ
  pub decodings : List ℕ
  pub matches : List ℕ

abbrev pub table : List ℕ → List ℕ → List ℕ → Table
table indices decodings matches = record { indices = indices; decodings = decodings; matches = matches }

abbrev pub rows_in : Table → ℕ
rows_in t = length t.indices

abbrev pub layer_of : Table → ℕ → ℕ
layer_of t k = get_or t.indices k 0

abbrev pub decoding_of : Table → ℕ → ℕ
decoding_of t k = get_or t.decodings k 0

abbrev pub match_of : Table → ℕ → ℕ
match_of t k = get_or t.matches k 0

-- the rows that a table may have, where nobody says more
abbrev pub most_rows : ℕ
most_rows = 512

-- 13: 'row columns of unequal length, more than 512 rows (place 0)', where `most` is 512 or what a caller has work space for
abbrev pub wrong_shape : ℕ → Table → Bool
wrong_shape most t =
    not (eqb (length t.decodings) (rows_in t)) || (not (eqb (length t.matches) (rows_in t)) || ltb most (rows_in t))

-- 'or a row out of range': 'A row is out of range when its index is above 63 or either time is 2^33 or more.'
abbrev pub outside : ℕ → ℕ → ℕ → Bool
outside index decoding match = ltb 63 index || (leb ticks decoding || leb ticks match)

abbrev pub out_of_range : Table → ℕ → Bool
out_of_range t k = outside (layer_of t k) (decoding_of t k) (match_of t k)

-- the first row out of range, or the number of rows where none is
abbrev pub first_out_of_range : Table → ℕ
first_out_of_range t = seek (out_of_range t) (rows_in t)

-- a layer's first row, and how far a row lies ahead of the first row of its layer: 'the forward distance of decoding times from that
-- layer's first row'
abbrev pub first_row : Table → ℕ → ℕ
first_row t layer = seek (λ k. eqb (layer_of t k) layer) (rows_in t)

abbrev pub ahead : Table → ℕ → ℕ
ahead t k = distance_of (decoding_of t (first_row t (layer_of t k))) (decoding_of t k)

-- the decoding time of a layer's first row, where `least` is 0 exactly when there was no row of the layer before the one at hand
abbrev pub first_time : ℕ → ℕ → ℕ → ℕ
first_time least known time = cond (eqb least 0) time known

-- whether an earlier row of the layer lies as far ahead or farther
abbrev pub passed : Table → ℕ → ℕ → ℕ → Bool
passed t layer distance k = some (λ j. eqb (layer_of t j) layer && leb distance (ahead t j)) k

-- 14: 'Within each closure layer, the forward distance of decoding times from that layer's first row must rise strictly from row to row
-- and stay below 2^32.' A row of a closure layer breaks this order when it lies 2^32 or more ahead, or no farther ahead than an earlier
-- row of its layer.
abbrev pub breaks_order : Table → ℕ → ℕ → Bool
breaks_order t closure k = has closure (layer_of t k) && (leb half (ahead t k) || passed t (layer_of t k) (ahead t k) k)

-- the first row that breaks the order of its layer, or the number of rows where none does
abbrev pub first_broken : Table → ℕ → ℕ
first_broken t closure = seek (breaks_order t closure) (rows_in t)
