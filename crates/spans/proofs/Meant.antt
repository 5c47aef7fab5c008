-- What Spans computes is what Meaning says, and nothing else is: the first closure row and the distances of closure rows from it, and 18
-- (`span_meant`, `span_only`).
-- Assumes nothing.
use Prim.Native.Nat.{ℕ, zero, suc, ◌+◌, ◌≤◌, ◌<◌}
use mathlib.Core.Bool.{Bool, true, false, true≢false}
use mathlib.Core.Logic.{◌⊎◌, inl, inr}
use mathlib.Core.Path.{◌≡◌, refl, sym, ◌∙◌, ap, subst}
use native.Mathlib.Decide.{dec_lt}
use native.Mathlib.Nat.{eq-or-lt_of_le, le_of_suc-le-suc}
use native.Mathlib.Omega.{arith}
use borrow.Author.Tests.{lt-ltb, le-ltb, leb-true, le-leb}
use lib.IntN.{ℤ}
use Rattle.clock.specs.Clock.{ticks, half, lag_of, Lag}
use Rattle.clock.proofs.Laws.{lag_is, lag_only}
use Rattle.closure.specs.declared.Layers.{Layers}
use Rattle.closure.specs.Meaning.{WholeClosure}
use Rattle.combinators.specs.Below.{some_at}
use Rattle.combinators.proofs.Seeking.{seek_first, seek_here, seek_inside}
use Rattle.rows.specs.Table.{Table, rows_in, layer_of, decoding_of}
use Rattle.spans.specs.Spans.{is_closure_row, first_closure_row, start_of, key_at, least_key, greatest_key, wide_span}
use Rattle.spans.specs.Meaning.{ClosureRow, FirstClosureRow, Distance, SpansTooFar}
use Rattle.spans.proofs.Keys.{key_below, apart_key, key_apart}

-- ---- the least and the greatest key

module _ (counts : ℕ → Bool) (key : ℕ → ℕ) where
  pub least_at_most : (n k : ℕ) → k < n → counts k ≡ true → least_key counts key n ≤ key k
  least_at_most zero k h e = absurd (omega arith)
  least_at_most (suc n) k h e =
      go (counts n) refl (dec_lt (key n) (least_key counts key n)) (eq-or-lt_of_le (le_of_suc-le-suc h)) (least_at_most n k)
    where
      go : (b : Bool) → counts n ≡ b → Dec (key n < least_key counts key n) → (k ≡ n) ⊎ (k < n)
          → (k < n → counts k ≡ true → least_key counts key n ≤ key k) → least_key counts key (suc n) ≤ key k
      go false p d (inl q) before = absurd (true≢false (sym e ∙ ap counts q ∙ p))
      go false p d (inr l) before = rw p (before l e)
      go true p (yes l) (inl q) before = rw (p, lt-ltb (key n) (least_key counts key n) l) (let s = ap key q in omega arith)
      go true p (yes l) (inr m) before = rw (p, lt-ltb (key n) (least_key counts key n) l) (let s = before m e in omega arith)
      go true p (no l) (inl q) before = rw (p, le-ltb (key n) (least_key counts key n) (omega arith)) (let s = ap key q in omega arith)
      go true p (no l) (inr m) before = rw (p, le-ltb (key n) (least_key counts key n) (omega arith)) (before m e)

  pub greatest_at_least : (n k : ℕ) → k < n → counts k ≡ true → key k ≤ greatest_key counts key n
  greatest_at_least zero k h e = absurd (omega arith)
  greatest_at_least (suc n) k h e =
      go (counts n) refl (dec_lt (greatest_key counts key n) (key n)) (eq-or-lt_of_le (le_of_suc-le-suc h)) (greatest_at_least n k)
    where
      go : (b : Bool) → counts n ≡ b → Dec (greatest_key counts key n < key n) → (k ≡ n) ⊎ (k < n)
          → (k < n → counts k ≡ true → key k ≤ greatest_key counts key n) → key k ≤ greatest_key counts key (suc n)
      go false p d (inl q) before = absurd (true≢false (sym e ∙ ap counts q ∙ p))
      go false p d (inr l) before = rw p (before l e)
      go true p (yes l) (inl q) before = rw (p, lt-ltb (greatest_key counts key n) (key n) l) (let s = ap key q in omega arith)
      go true p (yes l) (inr m) before = rw (p, lt-ltb (greatest_key counts key n) (key n) l) (let s = before m e in omega arith)
      go true p (no l) (inl q) before = rw (p, le-ltb (greatest_key counts key n) (key n) (omega arith)) (let s = ap key q in omega arith)
      go true p (no l) (inr m) before = rw (p, le-ltb (greatest_key counts key n) (key n) (omega arith)) (before m e)

  -- each is a key of one that counts, unless none does
  pub least_which : (n : ℕ) → (least_key counts key n ≡ ticks) ⊎ ((k : ℕ) × (k < n) × (counts k ≡ true) × (least_key counts key n ≡ key k))
  least_which zero = inl refl
  least_which (suc n) = go (counts n) refl (dec_lt (key n) (least_key counts key n)) (least_which n)
    where
      kept : least_key counts key (suc n) ≡ least_key counts key n
          → (least_key counts key n ≡ ticks) ⊎ ((k : ℕ) × (k < n) × (counts k ≡ true) × (least_key counts key n ≡ key k))
          → (least_key counts key (suc n) ≡ ticks) ⊎ ((k : ℕ) × (k < suc n) × (counts k ≡ true) × (least_key counts key (suc n) ≡ key k))
      kept s (inl e) = inl (s ∙ e)
      kept s (inr w) = inr (w.0, omega (arith, w.1), w.2, s ∙ w.3)

      go : (b : Bool) → counts n ≡ b → Dec (key n < least_key counts key n)
          → (least_key counts key n ≡ ticks) ⊎ ((k : ℕ) × (k < n) × (counts k ≡ true) × (least_key counts key n ≡ key k))
          → (least_key counts key (suc n) ≡ ticks) ⊎ ((k : ℕ) × (k < suc n) × (counts k ≡ true) × (least_key counts key (suc n) ≡ key k))
      go false p d w = kept (rw p) w
      go true p (yes l) w = inr (n, omega arith, p, rw (p, lt-ltb (key n) (least_key counts key n) l))
      go true p (no l) w = kept (rw (p, le-ltb (key n) (least_key counts key n) (omega arith))) w

  pub greatest_which : (n : ℕ) → (greatest_key counts key n ≡ 0) ⊎ ((k : ℕ) × (k < n) × (counts k ≡ true) × (greatest_key counts key n ≡ key k))
  greatest_which zero = inl refl
  greatest_which (suc n) = go (counts n) refl (dec_lt (greatest_key counts key n) (key n)) (greatest_which n)
    where
      kept : greatest_key counts key (suc n) ≡ greatest_key counts key n
          → (greatest_key counts key n ≡ 0) ⊎ ((k : ℕ) × (k < n) × (counts k ≡ true) × (greatest_key counts key n ≡ key k))
          → (greatest_key counts key (suc n) ≡ 0) ⊎ ((k : ℕ) × (k < suc n) × (counts k ≡ true) × (greatest_key counts key (suc n) ≡ key k))
      kept s (inl e) = inl (s ∙ e)
      kept s (inr w) = inr (w.0, omega (arith, w.1), w.2, s ∙ w.3)

      go : (b : Bool) → counts n ≡ b → Dec (greatest_key counts key n < key n)
          → (greatest_key counts key n ≡ 0) ⊎ ((k : ℕ) × (k < n) × (counts k ≡ true) × (greatest_key counts key n ≡ key k))
          → (greatest_key counts key (suc n) ≡ 0) ⊎ ((k : ℕ) × (k < suc n) × (counts k ≡ true) × (greatest_key counts key (suc n) ≡ key k))
      go false p d w = kept (rw p) w
      go true p (yes l) w = inr (n, omega arith, p, rw (p, lt-ltb (greatest_key counts key n) (key n) l))
      go true p (no l) w = kept (rw (p, le-ltb (greatest_key counts key n) (key n) (omega arith))) w

-- ---- over a whole closure

module _ (layers : Layers) (target closure : ℕ) (whole : WholeClosure layers target closure) (t : Table) where
  pub row_counts : (k : ℕ) → ClosureRow layers target t k → is_closure_row t closure k ≡ true
  row_counts k c = (whole.members (layer_of t k)).1 c.in_closure

  pub counts_row : (k : ℕ) → k < rows_in t → is_closure_row t closure k ≡ true → ClosureRow layers target t k
  counts_row k h e = record { inside = h; in_closure = (whole.members (layer_of t k)).0 e }

  -- the first closure row
  pub first_meant : (k : ℕ) → ClosureRow layers target t k → FirstClosureRow layers target t (first_closure_row t closure)
  first_meant k c =
      let inside = seek_inside (is_closure_row t closure) (rows_in t) (some_at (is_closure_row t closure) (rows_in t) k c.inside (row_counts k c)) in
      let first = seek_first (is_closure_row t closure) (rows_in t) in
      record {
        closure_row = counts_row (first_closure_row t closure) inside (first.found inside);
        earliest = λ j h r. true≢false (sym (row_counts j r) ∙ first.before j h);
      }

  pub first_only : (k : ℕ) → FirstClosureRow layers target t k → k ≡ first_closure_row t closure
  first_only k f =
      seek_here (is_closure_row t closure) (rows_in t) k f.closure_row.inside (λ j h. before j h (is_closure_row t closure j) refl)
      (row_counts k f.closure_row)
    where
      before : (j : ℕ) → j < k → (b : Bool) → is_closure_row t closure j ≡ b → is_closure_row t closure j ≡ false
      before j h true e = absurd (f.earliest j h (counts_row j (let i = f.closure_row.inside in omega arith) e))
      before j h false e = e

  -- the distance of a row from it: there is one, and no other
  pub distance_meant : (k : ℕ) → ClosureRow layers target t k → Distance layers target t k (lag_of (decoding_of t k) (start_of t closure))
  distance_meant k c =
      record { first = first_closure_row t closure; first_closure_row = first_meant k c; signed = lag_is (decoding_of t k) (start_of t closure) }

  pub from_start : (k : ℕ) (distance : ℤ) → Distance layers target t k distance → Lag (decoding_of t k) (start_of t closure) distance
  from_start k distance d =
      subst (λ (first : ℕ). Lag (decoding_of t k) (decoding_of t first) distance) (first_only d.first d.first_closure_row) d.signed

  pub distance_only : (k : ℕ) (x y : ℤ) → Distance layers target t k x → Distance layers target t k y → x ≡ y
  distance_only k x y p q = lag_only (decoding_of t k) (start_of t closure) x y (from_start k x p) (from_start k y q)

  -- 18
  abbrev least : ℕ
  least = least_key (is_closure_row t closure) (key_at t closure) (rows_in t)

  abbrev greatest : ℕ
  greatest = greatest_key (is_closure_row t closure) (key_at t closure) (rows_in t)

  pub span_meant : wide_span t closure ≡ true → SpansTooFar layers target t
  span_meant e =
      go (leb-true (least + half) greatest e) (least_which (is_closure_row t closure) (key_at t closure) (rows_in t))
      (greatest_which (is_closure_row t closure) (key_at t closure) (rows_in t))
    where
      go : least + half ≤ greatest → (least ≡ ticks) ⊎ ((k : ℕ) × (k < rows_in t) × (is_closure_row t closure k ≡ true) × (least ≡ key_at t closure k))
          → (greatest ≡ 0) ⊎ ((k : ℕ) × (k < rows_in t) × (is_closure_row t closure k ≡ true) × (greatest ≡ key_at t closure k)) → SpansTooFar layers target t
      go h low (inl z) = absurd (omega arith)
      go h (inl z) (inr w) = absurd (omega (arith, w.3, key_below (start_of t closure) (decoding_of t w.0)))
      go h (inr v) (inr w) =
          let early = counts_row v.0 v.1 v.2 in
          let late = counts_row w.0 w.1 w.2 in
          record {
            later = w.0;
            later_row = late;
            greatest = lag_of (decoding_of t w.0) (start_of t closure);
            later_distance = distance_meant w.0 late;
            earlier = v.0;
            earlier_row = early;
            least = lag_of (decoding_of t v.0) (start_of t closure);
            earlier_distance = distance_meant v.0 early;
            span = key_apart (start_of t closure) (decoding_of t v.0) (decoding_of t w.0) _ _ (lag_is (decoding_of t v.0) (start_of t closure))
                (lag_is (decoding_of t w.0) (start_of t closure)) half (omega (arith, v.3, w.3));
          }

  pub span_only : SpansTooFar layers target t → wide_span t closure ≡ true
  span_only s =
      le-leb (least + half) greatest
      (omega (
        arith,
        least_at_most (is_closure_row t closure) (key_at t closure) (rows_in t) s.earlier s.earlier_row.inside (row_counts s.earlier s.earlier_row),
        greatest_at_least (is_closure_row t closure) (key_at t closure) (rows_in t) s.later s.later_row.inside (row_counts s.later s.later_row),
        apart_key (start_of t closure) (decoding_of t s.earlier) (decoding_of t s.later) s.least s.greatest
            (from_start s.earlier s.least s.earlier_distance) (from_start s.later s.greatest s.later_distance) half s.span,
      ))
