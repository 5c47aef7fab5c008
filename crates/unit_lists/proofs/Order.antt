-- The order of units by distances is their order by keys: `before_key` and `key_before`.
-- Assumes nothing.
use Prim.Native.Nat.{ℕ, ◌<◌}
use mathlib.Core.Logic.{◌⊎◌, inl, inr}
use mathlib.Core.Path.{◌≡◌, sym, subst}
use native.Mathlib.Decide.{dec_lt}
use native.Mathlib.Omega.{arith}
use lib.IntN.{ℤ}
use Rattle.clock.specs.Clock.{lag_of}
use Rattle.clock.proofs.Laws.{lag_is}
use Rattle.closure.specs.declared.Layers.{Layers}
use Rattle.closure.specs.Meaning.{WholeClosure}
use Rattle.rows.specs.Table.{Table, layer_of, decoding_of}
use Rattle.spans.specs.Spans.{start_of, key_at}
use Rattle.spans.specs.Meaning.{ClosureRow, Distance}
use Rattle.spans.proofs.Keys.{key_lag, nearer_key, key_nearer, key_same}
use Rattle.spans.proofs.Meant.{distance_meant, from_start}
use Rattle.unit_lists.specs.Meaning.{ComesBefore, lower_distance, lower_layer, lower_row}

-- ---- the order by keys

-- one row before another, by the keys of their decoding times
pub data KeyBefore (t : Table) (closure j k : ℕ) : Type 0 where
  lower_key : key_at t closure j < key_at t closure k → KeyBefore t closure j k
  same_key : key_at t closure j ≡ key_at t closure k → layer_of t j < layer_of t k → KeyBefore t closure j k
  same_layer : key_at t closure j ≡ key_at t closure k → layer_of t j ≡ layer_of t k → j < k → KeyBefore t closure j k

module _ (t : Table) (closure : ℕ) where
  pub key_irreflexive : (k : ℕ) → KeyBefore t closure k k → ⊥
  key_irreflexive k (lower_key h) = omega arith
  key_irreflexive k (same_key e h) = omega arith
  key_irreflexive k (same_layer e l h) = omega arith

  pub key_transitive : (i j k : ℕ) → KeyBefore t closure i j → KeyBefore t closure j k → KeyBefore t closure i k
  key_transitive i j k (lower_key h) (lower_key l) = lower_key (omega arith)
  key_transitive i j k (lower_key h) (same_key e l) = lower_key (omega arith)
  key_transitive i j k (lower_key h) (same_layer e s l) = lower_key (omega arith)
  key_transitive i j k (same_key d h) (lower_key l) = lower_key (omega arith)
  key_transitive i j k (same_key d h) (same_key e l) = same_key (omega arith) (omega arith)
  key_transitive i j k (same_key d h) (same_layer e s l) = same_key (omega arith) (omega arith)
  key_transitive i j k (same_layer d r h) (lower_key l) = lower_key (omega arith)
  key_transitive i j k (same_layer d r h) (same_key e l) = same_key (omega arith) (omega arith)
  key_transitive i j k (same_layer d r h) (same_layer e s l) = same_layer (omega arith) (omega arith) (omega arith)

  pub key_total : (j k : ℕ) → (j ≡ k → ⊥) → KeyBefore t closure j k ⊎ KeyBefore t closure k j
  key_total j k n =
      go (dec_lt (key_at t closure j) (key_at t closure k)) (dec_lt (key_at t closure k) (key_at t closure j)) (dec_lt (layer_of t j) (layer_of t k))
      (dec_lt (layer_of t k) (layer_of t j)) (dec_lt j k)
    where
      go : Dec (key_at t closure j < key_at t closure k) → Dec (key_at t closure k < key_at t closure j) → Dec (layer_of t j < layer_of t k)
          → Dec (layer_of t k < layer_of t j) → Dec (j < k) → KeyBefore t closure j k ⊎ KeyBefore t closure k j
      go (yes h) b c d e = inl (lower_key h)
      go (no a) (yes h) c d e = inr (lower_key h)
      go (no a) (no b) (yes h) d e = inl (same_key (omega arith) h)
      go (no a) (no b) (no c) (yes h) e = inr (same_key (omega arith) h)
      go (no a) (no b) (no c) (no d) (yes h) = inl (same_layer (omega arith) (omega arith) h)
      go (no a) (no b) (no c) (no d) (no e) = inr (same_layer (omega arith) (omega arith) (omega (arith, n)))

module _ (layers : Layers) (target closure : ℕ) (whole : WholeClosure layers target closure) (t : Table) where
  -- ---- the order by distances is the order by keys

  equal_keys : (j k : ℕ) (distance : ℤ) → Distance layers target t j distance → Distance layers target t k distance
      → key_at t closure j ≡ key_at t closure k
  equal_keys j k distance d e =
      omega (
        arith,
        key_lag (start_of t closure) (decoding_of t j) distance (from_start layers target closure whole t j distance d),
        key_lag (start_of t closure) (decoding_of t k) distance (from_start layers target closure whole t k distance e),
      )

  pub before_key : (j k : ℕ) → ComesBefore layers target t j k → KeyBefore t closure j k
  before_key j k (lower_distance {distance} {farther} d e h) =
      lower_key (nearer_key (start_of t closure) (decoding_of t j) (decoding_of t k) distance farther
      (from_start layers target closure whole t j distance d) (from_start layers target closure whole t k farther e) h)
  before_key j k (lower_layer {distance} d e h) = same_key (equal_keys j k distance d e) h
  before_key j k (lower_row {distance} d e l h) = same_layer (equal_keys j k distance d e) l h

  module _ (j k : ℕ) (c : ClosureRow layers target t j) (d : ClosureRow layers target t k) where
    same_distance : key_at t closure j ≡ key_at t closure k → Distance layers target t k (lag_of (decoding_of t j) (start_of t closure))
    same_distance e =
        subst (Distance layers target t k)
        (sym (key_same (start_of t closure) (decoding_of t j) (decoding_of t k) (lag_of (decoding_of t j) (start_of t closure))
        (lag_of (decoding_of t k) (start_of t closure)) (lag_is (decoding_of t j) (start_of t closure)) (lag_is (decoding_of t k) (start_of t closure)) e))
        (distance_meant layers target closure whole t k d)

    pub key_before : KeyBefore t closure j k → ComesBefore layers target t j k
    key_before (lower_key h) =
        lower_distance (distance_meant layers target closure whole t j c) (distance_meant layers target closure whole t k d)
        (key_nearer (start_of t closure) (decoding_of t j) (decoding_of t k) (lag_of (decoding_of t j) (start_of t closure))
        (lag_of (decoding_of t k) (start_of t closure)) (lag_is (decoding_of t j) (start_of t closure)) (lag_is (decoding_of t k) (start_of t closure)) h)
    key_before (same_key e h) = lower_layer (distance_meant layers target closure whole t j c) (same_distance e) h
    key_before (same_layer e l h) = lower_row (distance_meant layers target closure whole t j c) (same_distance e) l h

  -- no row comes before itself, and of two that come before one another neither does
  pub never_itself : (k : ℕ) → ComesBefore layers target t k k → ⊥
  never_itself k b = key_irreflexive t closure k (before_key k k b)

  pub never_both : (j k : ℕ) → ComesBefore layers target t j k → ComesBefore layers target t k j → ⊥
  never_both j k b c = key_irreflexive t closure j (key_transitive t closure j k j (before_key j k b) (before_key k j c))
