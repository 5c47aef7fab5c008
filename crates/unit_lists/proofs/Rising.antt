-- The keys of a closure layer rise from row to row, where 14 and 18 are past: `keys_climb`, of what is computed, and `row_order`, in the documents' words.
-- Assumes nothing.
use Prim.Native.Nat.{ℕ, ◌+◌, ◌%◌, ◌<◌}
use mathlib.Core.Bool.{true, false, true≢false}
use mathlib.Core.Path.{◌≡◌, sym, ◌∙◌, ap, subst}
use native.Mathlib.Decide.{dec_lt}
use native.Mathlib.Omega.{arith}
use Rattle.clock.specs.Clock.{ticks, half, distance_of, lag_of, ForwardDistance}
use Rattle.clock.proofs.Laws.{distance_is, lag_is}
use Rattle.closure.specs.declared.Layers.{Layers}
use Rattle.closure.specs.Meaning.{WholeClosure}
use Rattle.sets.specs.Sets.{has}
use Rattle.rows.specs.Table.{Table, rows_in, layer_of, decoding_of, first_row, ahead, breaks_order}
use Rattle.rows.specs.Meaning.{NoRow, BreaksOrder}
use Rattle.rows.proofs.Meant.{farther, near, unbroken}
use Rattle.spans.specs.Spans.{start_of, key_of, key_at, wide_span}
use Rattle.spans.specs.Meaning.{ClosureRow, SpansTooFar}
use Rattle.spans.proofs.Keys.{key_below, key_apart}
use Rattle.spans.proofs.Meant.{counts_row, distance_meant, span_only}
use Rattle.heads.specs.Orderly.{Orderly}

-- ---- times that rise from row to row by less than half the clock: their keys rise too, unless they lie half the clock apart

-- from two starts the same two times lie the same way apart
added : (x y u v : ℕ) → x % ticks ≡ y % ticks → u % ticks ≡ v % ticks → (x + v) % ticks ≡ (y + u) % ticks
added x y u v p q = omega arith

cancelled : (c m n : ℕ) → (c + m) % ticks ≡ (c + n) % ticks → m % ticks ≡ n % ticks
cancelled c m n e = omega arith

same_way : (first start time later d e f g : ℕ) → ForwardDistance first time d → ForwardDistance first later e → ForwardDistance start time f
    → ForwardDistance start later g → (f + e) % ticks ≡ (g + d) % ticks
same_way first start time later d e f g p q r s =
    let both = added (start + f) (first + d) (start + g) (first + e) (r.arrives ∙ sym p.arrives) (s.arrives ∙ sym q.arrives) in
    let left : first + start + (f + e) ≡ start + f + (first + e) = omega arith in
    let right : first + start + (g + d) ≡ first + d + (start + g) = omega arith in
    cancelled (first + start) (f + e) (g + d) (ap (λ (n : ℕ). n % ticks) left ∙ both ∙ sym (ap (λ (n : ℕ). n % ticks) right))

half_on : (d e f g : ℕ) → (f + e) % ticks ≡ (g + d) % ticks → ((f + half) % ticks + e) % ticks ≡ ((g + half) % ticks + d) % ticks
half_on d e f g same = omega arith

level : (d e k l : ℕ) → d < e → e < half → k < l + half → (k + e) % ticks ≡ (l + d) % ticks → l < ticks → k < l
level d e k l rise below apart same small = omega arith

keys_rise : (first start time later : ℕ) → distance_of first time < distance_of first later → distance_of first later < half
    → key_of start time < key_of start later + half → key_of start time < key_of start later
keys_rise first start time later rise below apart =
    level (distance_of first time) (distance_of first later) (key_of start time) (key_of start later) rise below apart
    (half_on (distance_of first time) (distance_of first later) (distance_of start time) (distance_of start later)
    (same_way first start time later (distance_of first time) (distance_of first later) (distance_of start time) (distance_of start later)
    (distance_is first time) (distance_is first later) (distance_is start time) (distance_is start later)))
    (key_below start later)

module _ (layers : Layers) (target closure : ℕ) (whole : WholeClosure layers target closure) (t : Table) where
  module _ (narrow : SpansTooFar layers target t → ⊥) where
    not_apart : (j k : ℕ) → ClosureRow layers target t j → ClosureRow layers target t k → key_at t closure j < key_at t closure k + half
    not_apart j k c d = go (dec_lt (key_at t closure j) (key_at t closure k + half))
      where
        go : Dec (key_at t closure j < key_at t closure k + half) → key_at t closure j < key_at t closure k + half
        go (yes h) = h
        go (no n) =
            absurd (narrow
            record {
              later = j;
              later_row = c;
              greatest = lag_of (decoding_of t j) (start_of t closure);
              later_distance = distance_meant layers target closure whole t j c;
              earlier = k;
              earlier_row = d;
              least = lag_of (decoding_of t k) (start_of t closure);
              earlier_distance = distance_meant layers target closure whole t k d;
              span = key_apart (start_of t closure) (decoding_of t k) (decoding_of t j) (lag_of (decoding_of t k) (start_of t closure))
                  (lag_of (decoding_of t j) (start_of t closure)) (lag_is (decoding_of t k) (start_of t closure))
                  (lag_is (decoding_of t j) (start_of t closure)) half (omega arith);
            })

    -- the rows of a layer
    pub in_row_order : ((k : ℕ) → k < rows_in t → breaks_order t closure k ≡ false) → (j k : ℕ) → ClosureRow layers target t j → ClosureRow layers target t k
        → layer_of t j ≡ layer_of t k → j < k → key_at t closure j < key_at t closure k
    in_row_order ordered j k c d same h =
        let member = (whole.members (layer_of t k)).1 d.in_closure in
        keys_rise (decoding_of t (first_row t (layer_of t k))) (start_of t closure) (decoding_of t j) (decoding_of t k)
        (subst (λ (layer : ℕ). distance_of (decoding_of t (first_row t layer)) (decoding_of t j) < ahead t k) same
        (farther t closure j k member (ordered k d.inside) h same))
        (near t closure k member (ordered k d.inside)) (not_apart j k c d)

    pub row_order : NoRow t (BreaksOrder layers target t) → (j k : ℕ) → ClosureRow layers target t j → ClosureRow layers target t k
        → layer_of t j ≡ layer_of t k → j < k → key_at t closure j < key_at t closure k
    row_order ordered j k c d same h = in_row_order (unbroken layers target closure whole t ordered) j k c d same h

-- THE KEYS OF A CLOSURE LAYER RISE
pub keys_climb : (layers : Layers) (target closure : ℕ) (t : Table) → Orderly layers target closure t → wide_span t closure ≡ false
    → (layer j k : ℕ) → has closure layer ≡ true → j < k → k < rows_in t → layer_of t j ≡ layer → layer_of t k ≡ layer
    → key_at t closure j < key_at t closure k
keys_climb layers target closure t orderly narrow layer j k m h l p q =
    in_row_order layers target closure orderly.closed_over.whole t
    (λ s. true≢false (sym (span_only layers target closure orderly.closed_over.whole t s) ∙ narrow)) orderly.unbroken j k
    (counts_row layers target closure orderly.closed_over.whole t j (omega arith) (ap (has closure) p ∙ m))
    (counts_row layers target closure orderly.closed_over.whole t k l (ap (has closure) q ∙ m)) (p ∙ sym q) h
