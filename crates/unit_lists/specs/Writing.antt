-- The units written out of the rows that were kept of them: what this asks, and what the three lists then hold. That these are the units of the heads is shown in
-- proofs/Written.antt.
-- Assumes nothing.
use Rattle.std.specs.Prelude.{ℕ, ◌+◌, ◌≤◌, ◌<◌, true, List, map, ◌≡◌, ℤ, length, get_or}
use Rattle.std.proofs.Math.Seq.{slice}
use Rattle.buffers.specs.Buffers.{over}
use Rattle.combinators.specs.Lists.{gather}
use Rattle.combinators.specs.Once.{Small}
use Rattle.sets.specs.Sets.{has, size}
use Rattle.rows.specs.Table.{Table, rows_in, layer_of, decoding_of}
use Rattle.row_index.specs.Index.{Within, Sorted}
use Rattle.spans.specs.Spans.{key_at}
use Rattle.heads.specs.Units.{Frame, is_head, own_of, lags_from}
use Rattle.unit_lists.specs.Sequence.{heads_in_order, Lists, lists}

-- the rows of a head's unit, kept from the place on that is noted for it, one for each layer that its own rests on; and a lag beside each
abbrev pub kept_unit : Table → Frame → List ℕ → List ℕ → ℕ → List ℕ
kept_unit t f kept places head = slice (get_or places head 0) (get_or places head 0 + size (own_of t f head)) kept

abbrev pub kept_lags : Table → Frame → List ℕ → List ℕ → ℕ → List ℤ
kept_lags t f kept places head = lags_from t (decoding_of t head) (kept_unit t f kept places head)

-- the lists with the units of some heads over their fronts
abbrev pub lists_kept : Table → Frame → List ℕ → List ℕ → List ℕ → Lists → Lists
lists_kept t f kept places heads before =
    lists (over (gather (kept_unit t f kept places) heads) before.numbers) (over (gather (kept_lags t f kept places) heads) before.lags)
    (over (map (λ head. size (own_of t f head)) heads) before.sizes)

-- rows that stand in a list from one place to another, each below a bound
pub record Between (rows : List ℕ) (bound first end : ℕ) : Type 0 where
  pub from_to : first ≤ end
  pub inside : end ≤ length rows
  pub row : (place : ℕ) → first ≤ place → place < end → get_or rows place 0 < bound

-- what writing the units of some heads asks: their rows were kept, and each list has room
pub record Fillable (t : Table) (f : Frame) (kept places heads : List ℕ) (numbers lags sizes : ℕ) : Type 0 where
  pub decoded : length t.decodings ≡ rows_in t
  pub noted : rows_in t ≤ length places
  pub row : (i : ℕ) → i < length heads → get_or heads i 0 < rows_in t
  pub layer : (i : ℕ) → i < length heads → layer_of t (get_or heads i 0) < 64
  pub inside : (i : ℕ) → i < length heads → get_or places (get_or heads i 0) 0 + size (own_of t f (get_or heads i 0)) ≤ length kept
  pub rows : (i : ℕ) → i < length heads → Small (rows_in t) (kept_unit t f kept places (get_or heads i 0))
  pub room_numbers : length (gather (kept_unit t f kept places) heads) ≤ numbers
  pub room_lags : length (gather (kept_unit t f kept places) heads) ≤ lags
  pub room_sizes : length heads ≤ sizes

-- the keys of a closure layer's rows rise from row to row: what 14 and 18 leave (proofs/Rising.antt)
abbrev pub KeysRise : Table → ℕ → Type 0
KeysRise t closure = (j k : ℕ) → j < k → k < rows_in t → has closure (layer_of t k) ≡ true → layer_of t j ≡ layer_of t k
    → key_at t closure j < key_at t closure k

-- What writing the units of all heads asks: an index of the table by layer, keys and marks of its rows, room for the heads, and what was kept of them.
pub record Writable (t : Table) (f : Frame) (starts order keys kept places : List ℕ) (heads numbers lags sizes : ℕ) : Type 0 where
  pub sorted : Sorted t.indices t.decodings starts order
  pub within : Within t.indices
  pub marked : rows_in t ≤ length f.claimed
  pub keys_long : rows_in t ≤ length keys
  pub keyed : (k : ℕ) → k < rows_in t → get_or keys k 0 ≡ key_at t f.closure k
  pub rising : KeysRise t f.closure
  pub room_heads : rows_in t ≤ heads
  pub noted : rows_in t ≤ length places
  pub inside : (k : ℕ) → k < rows_in t → is_head t f k ≡ true → get_or places k 0 + size (own_of t f k) ≤ length kept
  pub rows : (k : ℕ) → k < rows_in t → is_head t f k ≡ true → Small (rows_in t) (kept_unit t f kept places k)
  pub room_numbers : length (gather (kept_unit t f kept places) (heads_in_order t f)) ≤ numbers
  pub room_lags : length (gather (kept_unit t f kept places) (heads_in_order t f)) ≤ lags
  pub room_sizes : length (heads_in_order t f) ≤ sizes
