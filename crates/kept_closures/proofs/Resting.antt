-- What a layer rests on, step by step from its own names; and how that changes when a layer is added.
-- Assumes nothing.
use Prim.Native.Nat.{ℕ, ◌<◌}
use mathlib.Core.Bool.{true, false, ◌&&◌, ◌||◌}
use mathlib.Core.Logic.{◌⊎◌, inl, inr, ◌≢◌}
use mathlib.Core.Path.{◌≡◌, refl, sym, ap, ap₂, ◌∙◌, subst}
use native.Mathlib.Decide.{ℕ_discrete}
use borrow.Author.Tests.{eqb-true, eq-eqb, ltb-true, lt-ltb}
use lib.Dec.{eqb, ltb}
use lib.ListN.{length}
use lib.Seq.{get_or-set_other}
use Rattle.combinators.specs.Bools.{both_left, both_right, either_left, either_right, either_which, both_ways}
use Rattle.sets.specs.Sets.{has, added}
use Rattle.sets.proofs.Laws.{has_added}
use Rattle.closure.specs.declared.Layers.{Layers}
use Rattle.closure.specs.Closures.{is_layer}
use Rattle.closure.specs.Meaning.{Names, RestsOn, itself, by}
use Rattle.kept_closures.specs.Kept.{with_layer}

module _ (layers : Layers) where
  -- one after the other
  pub rests_then : {i j k : ℕ} → RestsOn layers i j → RestsOn layers j k → RestsOn layers i k
  rests_then r itself = r
  rests_then r (by s n) = by (rests_then r s) n

  -- a layer rests on itself, and on what the layers that it names rest on
  pub data First (i k : ℕ) : Type 0 where
    none : i ≡ k → First i k
    named : {j : ℕ} → Names layers i j → RestsOn layers j k → First i k

  pub rests_first : {i k : ℕ} → RestsOn layers i k → First i k
  rests_first itself = none refl
  rests_first {i} (by {i = m} {j = k} r n) = go (rests_first r)
    where
      go : First i m → First i k
      go (none e) = named (subst (λ (x : ℕ). Names layers x k) (sym e) n) itself
      go (named first rest) = named first (by rest n)

  pub first_rests : {i k : ℕ} → First i k → RestsOn layers i k
  first_rests {i} (none e) = subst (RestsOn layers i) e itself
  first_rests (named n r) = rests_then (by itself n) r

-- a layer more
module _ (layers : Layers) (i names : ℕ) (room : i < length layers.embedded) (small : i < 64) (new : is_layer layers i ≡ false) where
  abbrev after : Layers
  after = with_layer layers i names

  present_after : (m : ℕ) → m < 64 → is_layer after m ≡ has layers.present m || eqb m i
  present_after m h = ap₂ ◌&&◌ (lt-ltb m 64 h) (has_added layers.present i m h)

  pub is_there : is_layer after i ≡ true
  is_there = present_after i small ∙ either_right (has layers.present i) (eqb i i) (eq-eqb i i refl)

  pub still_layer : (m : ℕ) → is_layer layers m ≡ true → is_layer after m ≡ true
  still_layer m e =
      present_after m (ltb-true m 64 (both_left (ltb m 64) (has layers.present m) e))
      ∙ either_left (has layers.present m) (eqb m i) (both_right (ltb m 64) (has layers.present m) e)

  pub was_layer : (m : ℕ) → m ≢ i → is_layer after m ≡ true → is_layer layers m ≡ true
  was_layer m apart_from e = go (either_which (has layers.present m) (eqb m i) (sym (present_after m below) ∙ e))
    where
      below : m < 64
      below = ltb-true m 64 (both_left (ltb m 64) (has (added layers.present i) m) e)

      go : (has layers.present m ≡ true) ⊎ (eqb m i ≡ true) → is_layer layers m ≡ true
      go (inl p) = ap₂ ◌&&◌ (lt-ltb m 64 below) p
      go (inr p) = absurd (apart_from (eqb-true m i p))

  layer_apart : (m : ℕ) → is_layer layers m ≡ true → m ≢ i
  layer_apart m e same = both_ways e (ap (is_layer layers) same ∙ new)

  pub names_still : {m j : ℕ} → Names layers m j → Names after m j
  names_still {m} {j} n =
      record {
        in_loop = still_layer m n.in_loop;
        embedded = ap (λ (s : ℕ). has s j) (get_or-set_other layers.embedded i m names 0 (layer_apart m n.in_loop)) ∙ n.embedded;
        lower = n.lower;
      }

  pub names_were : {m j : ℕ} → m ≢ i → Names after m j → Names layers m j
  names_were {m} {j} d n =
      record {
        in_loop = was_layer m d n.in_loop;
        embedded = sym (ap (λ (s : ℕ). has s j) (get_or-set_other layers.embedded i m names 0 d)) ∙ n.embedded;
        lower = n.lower;
      }

  pub rests_still : {k j : ℕ} → RestsOn layers k j → RestsOn after k j
  rests_still itself = itself
  rests_still (by r n) = by (rests_still r) (names_still n)

  -- what a layer rests on now it rested on before, or it rested on the new index, and that rests on it
  pub data Now (k j : ℕ) : Type 0 where
    before : RestsOn layers k j → Now k j
    through : RestsOn layers k i → RestsOn after i j → Now k j

  pub rests_now : {k j : ℕ} → RestsOn after k j → Now k j
  rests_now itself = before itself
  rests_now {k} (by {i = m} {j = j} r n) = go (rests_now r)
    where
      by_index : RestsOn layers k m → Dec (m ≡ i) → Now k j
      by_index s (yes e) = through (subst (RestsOn layers k) e s) (by itself (subst (λ (x : ℕ). Names after x j) e n))
      by_index s (no d) = before (by s (names_were d n))

      go : Now k m → Now k j
      go (before s) = by_index s (ℕ_discrete m i)
      go (through s t) = through s (by t n)

  pub now_rests : {k j : ℕ} → Now k j → RestsOn after k j
  now_rests (before r) = rests_still r
  now_rests (through r s) = rests_then after (rests_still r) s
