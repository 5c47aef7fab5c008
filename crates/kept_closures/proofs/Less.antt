-- What is kept when a layer goes: the layers without it, with it added, are those that there were, so that what is known of adding says what goes with it.
-- Assumes nothing.
use Prim.Native.Nat.{ℕ, zero, suc, ◌+◌, ◌≤◌, ◌<◌}
use mathlib.Core.Bool.{Bool, true, false, not, cond, ◌&&◌, ◌||◌}
use mathlib.Core.List.{List}
use mathlib.Core.Logic.{◌≢◌}
use mathlib.Core.Path.{◌≡◌, refl, sym, ap, ap₂, ◌∙◌, subst}
use native.Mathlib.Omega.{arith}
use native.Mathlib.Decide.{ℕ_discrete}
use borrow.Author.Tests.{eq-eqb, ne_eqb, lt-ltb}
use lib.Dec.{eqb, ltb}
use lib.ListN.{length, get_or, set, length-set}
use lib.Seq.{set-set, set-get_or}
use Rattle.combinators.specs.Bools.{both_ways, both_right, either_right}
use Rattle.sets.specs.Sets.{has, joined, only, added, without}
use Rattle.sets.proofs.Laws.{has_none, has_joined, has_only, has_without, same_members}
use Rattle.closure.specs.declared.Layers.{Layers}
use Rattle.closure.specs.Closures.{is_layer, rested_on}
use Rattle.closure.specs.Meaning.{itself}
use Rattle.closure.proofs.Reached.{rests_on_member}
use Rattle.kept_closures.specs.declared.Columns.{Columns}
use Rattle.kept_closures.specs.Kept.{fresh_of, lacks_one, stored_at, FreshAt, Kept, with_layer, without_layer, closure_over, shrunk_at, shrunk_by, columns_removed}
use Rattle.kept_closures.proofs.Resting.{was_layer}
use Rattle.kept_closures.proofs.Fresh.{put_together, fresh_same, fresh_more, same_absent, not_above}
use Rattle.kept_closures.proofs.Steps.{Halfway, by_storing, by_leaving, at_first, stepped}

module _ (layers : Layers) (i : ℕ) (room : i < length layers.embedded) (small : i < 64) (here : is_layer layers i ≡ true) where
  abbrev less : Layers
  less = without_layer layers i

  abbrev names : ℕ
  names = get_or layers.embedded i 0

  there : has layers.present i ≡ true
  there = both_right (ltb i 64) (has layers.present i) here

  -- added again
  pub back : with_layer less i names ≡ layers
  back = ap₂ (λ (p : ℕ) (e : List ℕ). record { present = p; embedded = e }) presents embeds
    where
      embeds : set (set layers.embedded i 0) i names ≡ layers.embedded
      embeds = set-set layers.embedded i 0 names ∙ set-get_or layers.embedded i 0

      each : (m : ℕ) → Dec (m ≡ i) → (has layers.present m && not (eqb m i)) || eqb m i ≡ has layers.present m
      each m (yes e) = either_right (has layers.present m && not (eqb m i)) (eqb m i) (eq-eqb m i e) ∙ sym (ap (has layers.present) e ∙ there)
      each m (no d) = ap (λ (b : Bool). (has layers.present m && not b) || b) (ne_eqb m i d) ∙ plain (has layers.present m)
        where
          plain : (b : Bool) → (b && true) || false ≡ b
          plain true = refl
          plain false = refl

      presents : added (without layers.present (only i)) i ≡ layers.present
      presents =
          ap (λ (b : Bool). cond b (joined (without layers.present (only i)) (only i)) (without layers.present (only i))) (lt-ltb i 64 small)
          ∙ same_members (joined (without layers.present (only i)) (only i)) layers.present
          (λ m. has_joined (without layers.present (only i)) (only i) m
          ∙ ap₂ ◌||◌ (has_without layers.present (only i) m ∙ ap (λ (b : Bool). has layers.present m && not b) (has_only i m)) (has_only i m)
          ∙ each m (ℕ_discrete m i))

  less_room : i < length less.embedded
  less_room = rw (length-set layers.embedded i 0) room

  gone : is_layer less i ≡ false
  gone =
      ap₂ ◌&&◌ (lt-ltb i 64 small)
      (has_without layers.present (only i) i ∙ ap (λ (b : Bool). has layers.present i && not b) (has_only i i ∙ eq-eqb i i refl) ∙ none (has layers.present i))
    where
      none : (b : Bool) → b && false ≡ false
      none true = refl
      none false = refl

  -- a layer that does not rest on the index keeps its closure
  same_fresh : (k : ℕ) → k ≢ i → has (fresh_of layers k) i ≡ false → fresh_of layers k ≡ fresh_of less k
  same_fresh k d apart = go (has (fresh_of less k) i) refl
    where
      again : fresh_of (with_layer less i names) k ≡ fresh_of layers k
      again = ap (λ (l : Layers). fresh_of l k) back

      go : (b : Bool) → has (fresh_of less k) i ≡ b → fresh_of layers k ≡ fresh_of less k
      go false e = sym again ∙ fresh_same less i names less_room small gone k d e
      go true e =
          let more = sym again ∙ fresh_more less i names less_room small gone k d e in
          both_ways
          (ap (λ (s : ℕ). has s i) more
          ∙ has_joined (fresh_of less k) (rested_on (with_layer less i names) i) i
          ∙ either_right (has (fresh_of less k) i) _ (rests_on_member (with_layer less i names) i i itself))
          apart

  same_at : (kept : Columns) (k : ℕ) → k ≢ i → has (get_or kept.closures k 0) i ≡ false → FreshAt layers kept k → FreshAt less kept k
  same_at kept k d apart f =
      record {
        closure = f.closure ∙ same_fresh k d (ap (λ (s : ℕ). has s i) (sym f.closure) ∙ apart);
        layers_in_it = f.layers_in_it;
        one_absent =
            f.one_absent
            ∙ ap (λ (l : Layers). lacks_one l.present (get_or kept.closures k 0)) (sym back)
            ∙ same_absent less i names less_room small gone (get_or kept.closures k 0) apart;
      }

  -- the closure of one that does is put together again
  still_layer : (k : ℕ) → k ≢ i → has (fresh_of layers k) i ≡ true → is_layer less k ≡ true
  still_layer k d resting = was_layer less i names less_room small gone k d (ap (λ (l : Layers). is_layer l k) back ∙ go (is_layer layers k) refl)
    where
      go : (b : Bool) → is_layer layers k ≡ b → is_layer layers k ≡ true
      go true e = e
      go false e = both_ways (sym (ap (λ (b : Bool). has (cond b (rested_on layers k) 0) i) e) ∙ resting) (has_none i)

  again_at : (kept : Columns) (k : ℕ) → k ≢ i → has (fresh_of layers k) i ≡ true → ((j : ℕ) → j < k → get_or kept.closures j 0 ≡ fresh_of less j)
      → closure_over kept.closures k (get_or less.embedded k 0) ≡ fresh_of less k
  again_at kept k d resting fresh =
      let layer = still_layer k d resting in
      put_together less kept.closures k layer fresh ∙ ap (λ (b : Bool). cond b (rested_on less k) 0) (sym layer)

  up_to : (kept : Columns) → Kept layers kept → (n : ℕ) → n ≤ i → Halfway layers less n kept
  up_to kept k zero h = at_first layers less kept k
  up_to kept k (suc n) h =
      let one : n + 1 ≡ suc n = omega arith in
      let below : n < 64 = omega arith in
      subst (λ (m : ℕ). Halfway layers less m kept) one
      (by_leaving layers less n kept below (up_to kept k n (omega arith))
      (same_at kept n (λ e. omega arith) (ap (λ (s : ℕ). has s i) (k.fresh n below).closure ∙ no_rest (is_layer layers n)) (k.fresh n below)))
    where
      no_rest : (b : Bool) → has (cond b (rested_on layers n) 0) i ≡ false
      no_rest true =
          not_above layers n i (omega arith)
      no_rest false = has_none i

  start : (kept : Columns) → Kept layers kept → Halfway layers less (i + 1) (stored_at less.present 0 i kept)
  start kept k =
      by_storing layers less i kept small (up_to kept k i (omega arith)) less.present 0 refl
      (ap (λ (b : Bool). cond b (rested_on less i) 0) (sym gone))

  next : (k : ℕ) (kept : Columns) → i < k → k < 64 → Halfway layers less k kept
      → Halfway layers less (k + 1) (shrunk_at less.present i k (get_or less.embedded k 0) kept)
  next k kept above inside half = go (has (get_or kept.closures k 0) i) refl (half.left k (omega arith) inside)
    where
      go : (b : Bool) → has (get_or kept.closures k 0) i ≡ b → FreshAt layers kept k
          → Halfway layers less (k + 1) (cond b (stored_at less.present (closure_over kept.closures k (get_or less.embedded k 0)) k kept) kept)
      go true e f =
          by_storing layers less k kept inside half less.present (closure_over kept.closures k (get_or less.embedded k 0)) refl
          (again_at kept k (λ s. omega arith) (ap (λ (s : ℕ). has s i) (sym f.closure) ∙ e) (λ j h. (half.done j h (let l : j < 64 = omega arith in l)).closure))
      go false e f = by_leaving layers less k kept inside half (same_at kept k (λ s. omega arith) e f)

  -- THE WHOLE
  pub removed_kept : (kept : Columns) → Kept layers kept → Kept less (columns_removed layers.present layers.embedded i kept)
  unfolding columns_removed
  removed_kept kept k =
      stepped layers less (shrunk_by less.present i less.embedded) i small next (stored_at less.present 0 i kept) (start kept k)
