-- Spans of 2^32-1 and of 2^32, forward, backward and to both sides, across the wrap of the clock, and rows that do not count. Layer 0 is the closure.
-- Assumes nothing.
use Rattle.std.specs.Prelude.{true, false, [], ◌∷◌, ◌≡◌, refl}
use Rattle.rows.specs.Table.{table}
use Rattle.spans.specs.Spans.{key_of, keys_of, wide_span}

-- a key is the signed distance plus 2^32: of the start itself, of the time before it, and of the farthest on either side
key_of_the_start : key_of 8589934000 8589934000 ≡ 4294967296
key_of_the_start = refl

key_across_the_wrap : key_of 8589934000 400 ≡ 4294968288
key_across_the_wrap = refl

key_before_the_start : key_of 400 8589934000 ≡ 4294966304
key_before_the_start = refl

farthest_after : key_of 0 4294967295 ≡ 8589934591
farthest_after = refl

farthest_before : key_of 0 4294967296 ≡ 0
farthest_before = refl

-- the start is the time of the first closure row, wherever it stands and whichever row is the earliest
keys_from_the_second_row : keys_of (table (1 ∷ 0 ∷ 0 ∷ []) (7 ∷ 100 ∷ 90 ∷ []) []) 1 ≡ 4294967203 ∷ 4294967296 ∷ 4294967286 ∷ []
keys_from_the_second_row = refl

-- no rows, and one row
no_rows : wide_span (table [] [] []) 1 ≡ false
no_rows = refl

one_row : wide_span (table (0 ∷ []) (5 ∷ []) []) 1 ≡ false
one_row = refl

-- forward: 2^32-1, and then 2^32, which is the farthest before
forward_below : wide_span (table (0 ∷ 0 ∷ []) (0 ∷ 4294967295 ∷ []) []) 1 ≡ false
forward_below = refl

forward_at : wide_span (table (0 ∷ 0 ∷ []) (0 ∷ 4294967296 ∷ []) []) 1 ≡ true
forward_at = refl

-- backward, across the wrap
backward_below : wide_span (table (0 ∷ 0 ∷ []) (5 ∷ 4294967302 ∷ []) []) 1 ≡ false
backward_below = refl

backward_at : wide_span (table (0 ∷ 0 ∷ []) (5 ∷ 4294967301 ∷ []) []) 1 ≡ true
backward_at = refl

-- to both sides: neither row is 2^32 from the first
both_sides_below : wide_span (table (0 ∷ 0 ∷ 0 ∷ []) (0 ∷ 2147483648 ∷ 6442450945 ∷ []) []) 1 ≡ false
both_sides_below = refl

both_sides_at : wide_span (table (0 ∷ 0 ∷ 0 ∷ []) (0 ∷ 2147483648 ∷ 6442450944 ∷ []) []) 1 ≡ true
both_sides_at = refl

-- a row outside the closure does not count, whether it stands first or last
outside_last : wide_span (table (0 ∷ 1 ∷ []) (0 ∷ 4294967296 ∷ []) []) 1 ≡ false
outside_last = refl

outside_first : wide_span (table (1 ∷ 0 ∷ 0 ∷ []) (0 ∷ 4294967296 ∷ 4294967300 ∷ []) []) 1 ≡ false
outside_first = refl
