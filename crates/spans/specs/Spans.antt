-- The distances of rows from the first closure row, as numbers that order as these do, and the test for 18.
-- Assumes nothing.
use Rattle.std.specs.Prelude.{ℕ, zero, suc, ◌+◌, ◌%◌, Bool, cond, ◌&&◌, List, map, leb, ltb}
use Rattle.clock.specs.Clock.{ticks, half, distance_of}
use Rattle.combinators.specs.Below.{seek}
use Rattle.sets.specs.Sets.{has}
use Rattle.rows.specs.Table.{Table, rows_in, layer_of, decoding_of}

-- whether a row is of a closure layer, and the decoding time of the first such row (0 where the table has none)
abbrev pub is_closure_row : Table → ℕ → ℕ → Bool
is_closure_row t closure k = has closure (layer_of t k)

abbrev pub first_closure_row : Table → ℕ → ℕ
first_closure_row t closure = seek (is_closure_row t closure) (rows_in t)

abbrev pub start_of : Table → ℕ → ℕ
start_of t closure = decoding_of t (first_closure_row t closure)

-- THE KEY of a time: its signed distance from the start, plus 2^32. It lies below 2^33, and keys order as the distances do (`key_lag` of
-- proofs/Keys.antt).
abbrev pub key_of : ℕ → ℕ → ℕ
key_of start time = (distance_of start time + half) % ticks

abbrev pub key_at : Table → ℕ → ℕ → ℕ
key_at t closure k = key_of (start_of t closure) (decoding_of t k)

-- the keys of all rows
abbrev pub keys_of : Table → ℕ → List ℕ
keys_of t closure = map (key_of (start_of t closure)) t.decodings

-- the least and the greatest key of those below n that count, 2^33 and 0 where there is none
abbrev pub lowered : Bool → ℕ → ℕ → ℕ
lowered counts key least = cond (counts && ltb key least) key least

abbrev pub raised : Bool → ℕ → ℕ → ℕ
raised counts key greatest = cond (counts && ltb greatest key) key greatest

abbrev pub least_key : (ℕ → Bool) → (ℕ → ℕ) → ℕ → ℕ
least_key counts key zero = ticks
least_key counts key (suc n) = lowered (counts n) (key n) (least_key counts key n)

abbrev pub greatest_key : (ℕ → Bool) → (ℕ → ℕ) → ℕ → ℕ
greatest_key counts key zero = 0
greatest_key counts key (suc n) = raised (counts n) (key n) (greatest_key counts key n)

-- 18: 'when the distances of closure rows from that first row span 2^32 or more'
abbrev pub wide_span : Table → ℕ → Bool
wide_span t closure =
    leb (least_key (is_closure_row t closure) (key_at t closure) (rows_in t) + half) (greatest_key (is_closure_row t closure) (key_at t closure) (rows_in t))
