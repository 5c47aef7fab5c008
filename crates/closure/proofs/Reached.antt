-- The set that the scan of Closures builds holds exactly the indices that the target rests on: `member_rests_on`, `rests_on_member`.
-- Assumes nothing.
use Prim.Native.Nat.{ℕ, zero, suc, ◌≤◌, ◌<◌, zero-le}
use mathlib.Core.Bool.{Bool, true, false, cond, ◌&&◌, true≢false}
use mathlib.Core.Logic.{◌⊎◌, inl, inr}
use mathlib.Core.Path.{◌≡◌, refl, sym, ap, ◌∙◌, subst}
use native.Mathlib.Nat.{eq-or-lt_of_le, le_refl, le_trans, le_of_lt, lt_irrefl, lt_of_lt_of_le}
use borrow.Author.Tests.{eqb-true, eq-eqb, ltb-true, lt-ltb}
use lib.Dec.{ltb}
use lib.ListN.{get_or}
use Rattle.combinators.specs.Bools.{both_left, both_right, either_left, either_right, either_which}
use Rattle.sets.specs.Sets.{has, joined, only}
use Rattle.sets.proofs.Laws.{has_none, has_joined, has_only, has_below}
use Rattle.closure.specs.declared.Layers.{Layers}
use Rattle.closure.specs.Closures.{is_layer, named_by, named, following, followed_below, rested_on}
use Rattle.closure.specs.Meaning.{Names, RestsOn, itself, by}

-- ---- an index that is a layer's is below 64

module _ (layers : Layers) where
  pub layer_below_64 : (i : ℕ) → is_layer layers i ≡ true → i < 64
  layer_below_64 i h = ltb-true i 64 (both_left (ltb i 64) (has layers.present i) h)

  -- ---- the set `named` holds what a layer names

  pub names : (i j : ℕ) → has (named layers i) j ≡ true → Names layers i j
  names i j = go (is_layer layers i) refl
    where
      go : (b : Bool) → is_layer layers i ≡ b → has (named_by b (get_or layers.embedded i 0) i) j ≡ true → Names layers i j
      go true h m =
          let both = sym (has_below (get_or layers.embedded i 0) i j) ∙ m in
          record {
            in_loop = h;
            embedded = both_right (ltb j i) (has (get_or layers.embedded i 0) j) both;
            lower = ltb-true j i (both_left (ltb j i) (has (get_or layers.embedded i 0) j) both);
          }
      go false h m = absurd (true≢false (sym m ∙ has_none j))

  pub has_named : (i j : ℕ) → Names layers i j → has (named layers i) j ≡ true
  has_named i j n =
      ap (λ (b : Bool). has (named_by b (get_or layers.embedded i 0) i) j) n.in_loop
      ∙ has_below (get_or layers.embedded i 0) i j
      ∙ ap (λ (b : Bool). b && has (get_or layers.embedded i 0) j) (lt-ltb j i n.lower)
      ∙ n.embedded

  -- ---- following one layer: nothing is lost, and what is new is named by that layer

  kept : (set i j : ℕ) → has set j ≡ true → has (following layers set i) j ≡ true
  kept set i j m = go (has set i)
    where
      go : (b : Bool) → has (cond b (joined set (named layers i)) set) j ≡ true
      go true = has_joined set (named layers i) j ∙ either_left (has set j) (has (named layers i) j) m
      go false = m

  new : (set i j : ℕ) → has (following layers set i) j ≡ true → (has set j ≡ true) ⊎ ((has set i ≡ true) × Names layers i j)
  new set i j = go (has set i) refl
    where
      tell : has set i ≡ true → (has set j ≡ true) ⊎ (has (named layers i) j ≡ true)
          → (has set j ≡ true) ⊎ ((has set i ≡ true) × Names layers i j)
      tell h (inl m) = inl m
      tell h (inr m) = inr (h, names i j m)

      go : (b : Bool) → has set i ≡ b → has (cond b (joined set (named layers i)) set) j ≡ true
          → (has set j ≡ true) ⊎ ((has set i ≡ true) × Names layers i j)
      go true h m = tell h (either_which (has set j) (has (named layers i) j) (sym (has_joined set (named layers i) j) ∙ m))
      go false h m = inl m

  gained : (set i j : ℕ) → has set i ≡ true → Names layers i j → has (following layers set i) j ≡ true
  gained set i j h n =
      ap (λ (b : Bool). has (cond b (joined set (named layers i)) set) j) h
      ∙ has_joined set (named layers i) j
      ∙ either_right (has set j) (has (named layers i) j) (has_named i j n)

  -- ---- the whole scan

  kept_below : (n set j : ℕ) → has set j ≡ true → has (followed_below layers n set) j ≡ true
  kept_below zero set j m = m
  kept_below (suc i) set j m = kept_below i (following layers set i) j (kept set i j m)

  -- every member is rested on, if every member was
  rested : (target n set : ℕ) → ((j : ℕ) → has set j ≡ true → RestsOn layers target j)
      → (j : ℕ) → has (followed_below layers n set) j ≡ true → RestsOn layers target j
  rested target zero set from = from
  rested target (suc i) set from = rested target i (following layers set i) (λ j m. go j (new set i j m))
    where
      go : (j : ℕ) → (has set j ≡ true) ⊎ ((has set i ≡ true) × Names layers i j) → RestsOn layers target j
      go j (inl m) = from j m
      go j (inr w) = by (from i w.0) w.1

  -- the layers from n on have been followed: what they name is there
  Followed : ℕ → ℕ → Type 0
  Followed n set = (i j : ℕ) → n ≤ i → has set i ≡ true → Names layers i j → has set j ≡ true

  follow_next : (n set : ℕ) → Followed (suc n) set → Followed n (following layers set n)
  unfolding Followed
  follow_next n set done i j l m names-j = was (new set n i m)
    where
      at_or_above : has set i ≡ true → (n ≡ i) ⊎ (n < i) → has (following layers set n) j ≡ true
      at_or_above h (inl e) =
          gained set n j (subst (λ (k : ℕ). has set k ≡ true) (sym e) h) (subst (λ (k : ℕ). Names layers k j) (sym e) names-j)
      at_or_above h (inr above) = kept set n j (done i j above h names-j)

      was : (has set i ≡ true) ⊎ ((has set n ≡ true) × Names layers n i) → has (following layers set n) j ≡ true
      was (inl h) = at_or_above h (eq-or-lt_of_le l)
      was (inr w) = absurd (lt_irrefl i (lt_of_lt_of_le w.1.lower l))

  follow_all : (n set : ℕ) → Followed n set → Followed 0 (followed_below layers n set)
  follow_all zero set done = done
  follow_all (suc i) set done = follow_all i (following layers set i) (follow_next i set done)

  module _ (target : ℕ) where
    only_itself : (j : ℕ) → has (only target) j ≡ true → target ≡ j
    only_itself j m = sym (eqb-true j target (sym (has_only target j) ∙ m))

    start_followed : Followed (suc target) (only target)
    unfolding Followed
    start_followed i j l m n = absurd (lt_irrefl target (subst (λ (k : ℕ). target < k) (sym (only_itself i m)) l))

    -- THE SET: exactly the indices that the target rests on
    pub member_rests_on : (j : ℕ) → has (rested_on layers target) j ≡ true → RestsOn layers target j
    member_rests_on = rested target (suc target) (only target) (λ j m. subst (RestsOn layers target) (only_itself j m) itself)

    pub rests_on_member : (j : ℕ) → RestsOn layers target j → has (rested_on layers target) j ≡ true
    unfolding Followed
    rests_on_member j itself = kept_below (suc target) (only target) target (has_only target target ∙ eq-eqb target target refl)
    rests_on_member j (by {i = i} r n) =
        follow_all (suc target) (only target) start_followed i j zero-le (rests_on_member i r) n

    -- a target rests on nothing above itself
    pub rests_on_at_most : (j : ℕ) → RestsOn layers target j → j ≤ target
    rests_on_at_most j itself = le_refl target
    rests_on_at_most j (by {i = i} r n) = le_trans (le_of_lt n.lower) (rests_on_at_most i r)
