-- The walk of `measure`: the start, and what is known after some rows, the keys laid so far and the least and the greatest of those that count.
-- Assumes nothing.
use Prim.Native.Nat.{ℕ, zero, suc, ◌+◌, ◌≤◌, ◌<◌}
use mathlib.Core.Bool.{Bool, true, false}
use mathlib.Core.List.{List}
use mathlib.Core.Path.{◌≡◌, refl, sym, ◌∙◌, ap}
use native.Mathlib.Decide.{dec_lt}
use native.Mathlib.Nat.{zero-add}
use native.Mathlib.Numerals.{add-one}
use native.Mathlib.Omega.{arith}
use borrow.Author.Tests.{lt-ltb, le-ltb}
use lib.ListN.{length, get_or, set, take, drop, length-set, length-map, get_or-append, get_or-eq_default}
use lib.Seq.{sets, take_all}
use Rattle.buffers.specs.Buffers.{over}
use Rattle.buffers.proofs.Laws.{one_more, sets_over}
use Rattle.clock.specs.Clock.{ticks}
use Rattle.combinators.proofs.Seeking.{seek_here, seek_end}
use Rattle.combinators.specs.Lists.{get_d_map, get_d_nth}
use Rattle.rows.specs.Table.{Table, rows_in, decoding_of}
use Rattle.spans.specs.Spans.{is_closure_row, start_of, key_of, key_at, keys_of, lowered, raised, least_key, greatest_key}

module _ (t : Table) (closure : ℕ) where
  -- ---- the start

  pub start_here : (k : ℕ) → k < rows_in t → ((j : ℕ) → j < k → is_closure_row t closure j ≡ false) → is_closure_row t closure k ≡ true
      → decoding_of t k ≡ start_of t closure
  start_here k h none e = ap (decoding_of t) (seek_here (is_closure_row t closure) (rows_in t) k h none e)

  pub start_none : (k : ℕ) → k ≡ rows_in t → length t.decodings ≡ rows_in t → ((j : ℕ) → j < k → is_closure_row t closure j ≡ false)
      → 0 ≡ start_of t closure
  start_none k e long none =
      sym (get_or-eq_default t.decodings 0 {n = k} (omega arith)) ∙ ap (decoding_of t) (seek_end (is_closure_row t closure) (rows_in t) k e none)

  -- ---- the column of keys

  key_of_row : (k : ℕ) → length t.decodings ≡ rows_in t → k < rows_in t → get_or (keys_of t closure) k 0 ≡ key_at t closure k
  key_of_row k decoded h = get_d_map (key_of (start_of t closure)) 0 (get_d_nth t.decodings k 0 (omega arith))

  -- what stands at a row's place once the keys are laid
  pub key_laid : (old : List ℕ) (k : ℕ) → length t.decodings ≡ rows_in t → k < rows_in t → get_or (over (keys_of t closure) old) k 0 ≡ key_at t closure k
  key_laid old k decoded h =
      get_or-append (keys_of t closure) (drop (length (keys_of t closure)) old) 0 k (omega (arith, length-map t.decodings (key_of (start_of t closure))))
      ∙ key_of_row k decoded h

  -- ---- the walk

  -- no least key is past the one before it
  lowered_most : (counts : Bool) (key least : ℕ) → lowered counts key least ≤ least
  lowered_most false key least = omega arith
  lowered_most true key least = go (dec_lt key least)
    where
      go : Dec (key < least) → lowered true key least ≤ least
      go (yes h) = rw (lt-ltb key least h) (omega arith)
      go (no h) = rw (le-ltb key least (omega arith)) (omega arith)

  pub least_most : (n : ℕ) → least_key (is_closure_row t closure) (key_at t closure) n ≤ ticks
  least_most zero = omega arith
  least_most (suc n) =
      omega (arith, least_most n, lowered_most (is_closure_row t closure n) (key_at t closure n) (least_key (is_closure_row t closure) (key_at t closure) n))

  pub record Measured (old : List ℕ) (row : ℕ) (keys : List ℕ) (least greatest : ℕ) : Type 0 where
    pub within : row ≤ rows_in t
    pub laid : keys ≡ sets old 0 (take row (keys_of t closure))
    pub long : length keys ≡ length old
    pub least_is : least ≡ least_key (is_closure_row t closure) (key_at t closure) row
    pub greatest_is : greatest ≡ greatest_key (is_closure_row t closure) (key_at t closure) row

  pub measured_start : (old : List ℕ) → Measured old 0 old ticks 0
  measured_start old = record { within = omega arith; laid = refl; long = refl; least_is = refl; greatest_is = refl }

  module _ (old : List ℕ) (row : ℕ) (keys : List ℕ) (least greatest : ℕ) (known : Measured old row keys least greatest) where
    pub measured_more : row < rows_in t → length t.decodings ≡ rows_in t → (start key : ℕ) → start ≡ start_of t closure
        → key ≡ key_of start (decoding_of t row) → (counts : Bool) → counts ≡ is_closure_row t closure row → (low high : ℕ) → low ≡ lowered counts key least
        → high ≡ raised counts key greatest → Measured old (row + 1) (set keys row key) low high
    measured_more inside decoded start key starts is_key counts is-counts low high is-low is-high =
        record {
          within = omega arith;
          laid = ap (λ (l : List ℕ). set l row key) known.laid
              ∙ ap (set (sets old 0 (take row (keys_of t closure))) row) (keyed ∙ sym (key_of_row row decoded inside))
              ∙ ap (λ (n : ℕ). set (sets old 0 (take row (keys_of t closure))) n (get_or (keys_of t closure) row 0)) (sym (zero-add row))
              ∙ one_more old 0 (keys_of t closure) row 0 (omega (arith, length-map t.decodings (key_of (start_of t closure))));
          long = length-set keys row key ∙ known.long;
          least_is = is-low ∙ rw (add-one row, is-counts, keyed, known.least_is);
          greatest_is = is-high ∙ rw (add-one row, is-counts, keyed, known.greatest_is);
        }
      where
        keyed : key ≡ key_at t closure row
        keyed = is_key ∙ ap (λ (s : ℕ). key_of s (decoding_of t row)) starts

    module _ (end : rows_in t ≤ row) where
      all : row ≡ rows_in t
      all = omega (arith, known.within)

      pub measured_keys : length t.decodings ≡ rows_in t → rows_in t ≤ length old → keys ≡ over (keys_of t closure) old
      measured_keys decoded room =
          let long = length-map t.decodings (key_of (start_of t closure)) in
          known.laid
          ∙ ap (sets old 0) (take_all row (keys_of t closure) (omega arith))
          ∙ sets_over (keys_of t closure) old (omega arith)

      pub measured_least : least ≡ least_key (is_closure_row t closure) (key_at t closure) (rows_in t)
      measured_least = known.least_is ∙ ap (least_key (is_closure_row t closure) (key_at t closure)) all

      pub measured_greatest : greatest ≡ greatest_key (is_closure_row t closure) (key_at t closure) (rows_in t)
      measured_greatest = known.greatest_is ∙ ap (greatest_key (is_closure_row t closure) (key_at t closure)) all
