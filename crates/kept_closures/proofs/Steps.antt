-- The steps of the functions: what is kept while a layer comes.
-- Assumes nothing.
use Prim.Native.Nat.{ℕ, zero, suc, ◌+◌, ◌-◌, ◌<◌, ◌≤◌}
use mathlib.Core.Bool.{Bool, true, false, cond}
use mathlib.Core.Logic.{◌≢◌}
use mathlib.Core.Path.{◌≡◌, refl, sym, ap, ap₂, ◌∙◌, subst}
use native.Mathlib.Omega.{arith}
use native.Mathlib.Decide.{ℕ_discrete}
use native.Mathlib.Nat.{lt_of_le_of_lt}
use lib.ListN.{length, get_or, length-set}
use lib.Seq.{get_or-set_same, get_or-set_other}
use Rattle.combinators.specs.Below.{count_short}
use Rattle.sets.specs.Sets.{has, joined, size}
use Rattle.sets.proofs.Laws.{has_none}
use Rattle.closure.specs.declared.Layers.{Layers}
use Rattle.closure.specs.Closures.{is_layer, rested_on}
use Rattle.kept_closures.specs.declared.Columns.{Columns}
use Rattle.kept_closures.specs.Kept.{fresh_of, lacks_one, stored_at, FreshAt, Places, Kept, with_layer, closure_over, grown_at, steps_from, columns_added}
use Rattle.kept_closures.proofs.Fresh.{fresh_same, fresh_more, fresh_own, rested_own, same_absent, not_above}

-- ---- what is kept

64-small : 64 < 256
64-small = omega arith

pub size_small : (s : ℕ) → size s < 256
unfolding size
size_small s = lt_of_le_of_lt (count_short (has s) 64) 64-small

module _ (present closure j : ℕ) (kept : Columns) (places : Places kept) (inside : j < 64) where
  abbrev stored : Columns
  stored = stored_at present closure j kept

  pub stored_places : Places stored
  stored_places =
      record {
        of_closures = length-set kept.closures j closure ∙ places.of_closures;
        of_sizes = length-set kept.sizes j (size closure) ∙ places.of_sizes;
        of_absents = length-set kept.absents j (lacks_one present closure) ∙ places.of_absents;
      }

  -- what was put at the index,
  pub stored_here : (layers : Layers) → layers.present ≡ present → closure ≡ fresh_of layers j → FreshAt layers stored j
  stored_here layers same e =
      let at = get_or-set_same kept.closures j closure 0 (rw places.of_closures inside) in
      record {
        closure = at ∙ e;
        layers_in_it = get_or-set_same kept.sizes j (size closure) 0 (rw places.of_sizes inside) ∙ ap size (sym at);
        one_absent =
            get_or-set_same kept.absents j (lacks_one present closure) false (rw places.of_absents inside)
            ∙ ap (λ (p : ℕ). lacks_one p closure) (sym same)
            ∙ ap (lacks_one layers.present) (sym at);
      }

  -- and what stands at another
  pub stored_other : (layers : Layers) (k : ℕ) → k ≢ j → FreshAt layers kept k → FreshAt layers stored k
  stored_other layers k d f =
      let at = get_or-set_other kept.closures j k closure 0 d in
      record {
        closure = at ∙ f.closure;
        layers_in_it = get_or-set_other kept.sizes j k (size closure) 0 d ∙ f.layers_in_it ∙ ap size (sym at);
        one_absent =
            get_or-set_other kept.absents j k (lacks_one present closure) false d ∙ f.one_absent ∙ ap (lacks_one layers.present) (sym at);
      }

-- ---- a change, done up to an index: below it all is as it is now, and from there on as it was

pub record Halfway (was is : Layers) (k : ℕ) (kept : Columns) : Type 0 where
  pub places : Places kept
  pub done : (m : ℕ) → m < k → m < 64 → FreshAt is kept m
  pub left : (m : ℕ) → k ≤ m → m < 64 → FreshAt was kept m

module _ (was is : Layers) (k : ℕ) (kept : Columns) (inside : k < 64) (half : Halfway was is k kept) where
  -- one index more: what is right there is put there,
  pub by_storing : (present closure : ℕ) → is.present ≡ present → closure ≡ fresh_of is k → Halfway was is (k + 1) (stored_at present closure k kept)
  by_storing present closure same e =
      record {
        places = stored_places present closure k kept half.places inside;
        done = λ m h l. at m l (ℕ_discrete m k) h;
        left = λ m h l. stored_other present closure k kept half.places inside was m (λ s. omega arith) (half.left m (omega arith) l);
      }
    where
      at : (m : ℕ) → m < 64 → Dec (m ≡ k) → m < k + 1 → FreshAt is (stored_at present closure k kept) m
      at m l (yes s) h =
          subst (FreshAt is (stored_at present closure k kept)) (sym s) (stored_here present closure k kept half.places inside is same e)
      at m l (no d) h = stored_other present closure k kept half.places inside is m d (half.done m (let b : m < k = omega arith in b) l)

  -- or stands there already
  pub by_leaving : FreshAt is kept k → Halfway was is (k + 1) kept
  by_leaving f =
      record { places = half.places; done = λ m h l. at m l (ℕ_discrete m k) h; left = λ m h l. half.left m (omega arith) l }
    where
      at : (m : ℕ) → m < 64 → Dec (m ≡ k) → m < k + 1 → FreshAt is kept m
      at m l (yes s) h = subst (FreshAt is kept) (sym s) f
      at m l (no d) h = half.done m (let b : m < k = omega arith in b) l

pub at_first : (was is : Layers) (kept : Columns) → Kept was kept → Halfway was is 0 kept
at_first was is kept k = record { places = k.places; done = λ m h l. absurd (omega arith); left = λ m h l. k.fresh m l }

pub at_last : (was is : Layers) (k : ℕ) (kept : Columns) → 64 ≤ k → Halfway was is k kept → Kept is kept
at_last was is k kept h half = record { places = half.places; fresh = λ m l. half.done m (let b : m < k = omega arith in b) l }

-- every index above one, each by its step
module _ (was is : Layers) (step : ℕ → Columns → Columns) where
  steps_through : (n k : ℕ) (kept : Columns) → n + k ≡ 64
      → ((m : ℕ) (now : Columns) → k ≤ m → m < 64 → Halfway was is m now → Halfway was is (m + 1) (step m now))
      → Halfway was is k kept → Halfway was is 64 (steps_from step k n kept)
  steps_through zero k kept sum each half = let e : k ≡ 64 = omega arith in subst (λ (m : ℕ). Halfway was is m kept) e half
  steps_through (suc n) k kept sum each half =
      let same : k + 1 ≡ suc k = omega arith in
      steps_through n (suc k) (step k kept) (omega arith) (λ m now h. each m now (omega arith))
      (subst (λ (m : ℕ). Halfway was is m (step k kept)) same (each k kept (omega arith) (omega arith) half))

  pub all_stepped : (k n : ℕ) (kept : Columns) → n + k ≡ 64
      → ((m : ℕ) (now : Columns) → k ≤ m → m < 64 → Halfway was is m now → Halfway was is (m + 1) (step m now))
      → Halfway was is k kept → Kept is (steps_from step k n kept)
  all_stepped k n kept sum each half = at_last was is 64 (steps_from step k n kept) (omega arith) (steps_through n k kept sum each half)

  pub stepped : (i : ℕ) → i < 64
      → ((m : ℕ) (now : Columns) → i < m → m < 64 → Halfway was is m now → Halfway was is (m + 1) (step m now))
      → (kept : Columns) → Halfway was is (i + 1) kept → Kept is (steps_from step (i + 1) (63 - i) kept)
  stepped i inside each kept half =
      all_stepped (i + 1) (63 - i) kept (omega arith) (λ m now h. each m now (omega arith)) half

-- one turn of such a loop, and its end
pub step_turn : (step : ℕ → Columns → Columns) (k : ℕ) (kept : Columns) → k < 64
    → steps_from step (k + 1) (64 - (k + 1)) (step k kept) ≡ steps_from step k (64 - k) kept
step_turn step k kept h =
    let one : k + 1 ≡ suc k = omega arith in
    let less : 64 - k ≡ suc (64 - (k + 1)) = omega arith in
    ap (λ (m : ℕ). steps_from step m (64 - (k + 1)) (step k kept)) one
    ∙ ap (λ (n : ℕ). steps_from step k n kept) (sym less)

pub step_end : (step : ℕ → Columns → Columns) (k : ℕ) (kept : Columns) → 64 ≤ k → kept ≡ steps_from step k (64 - k) kept
step_end step k kept h = let none : 64 - k ≡ 0 = omega arith in ap (λ (n : ℕ). steps_from step k n kept) (sym none)

-- ---- a layer more

module _ (layers : Layers) (i names : ℕ) (room : i < length layers.embedded) (small : i < 64) (new : is_layer layers i ≡ false) where
  abbrev after : Layers
  after = with_layer layers i names

  -- a layer that does not rest on the index
  pub same_at : (kept : Columns) (k : ℕ) → k ≢ i → has (get_or kept.closures k 0) i ≡ false → FreshAt layers kept k → FreshAt after kept k
  same_at kept k d apart f =
      record {
        closure = f.closure ∙ sym (fresh_same layers i names room small new k d (ap (λ (s : ℕ). has s i) (sym f.closure) ∙ apart));
        layers_in_it = f.layers_in_it;
        one_absent = f.one_absent ∙ sym (same_absent layers i names room small new (get_or kept.closures k 0) apart);
      }

  abbrev own_in : Columns → ℕ
  own_in kept = closure_over kept.closures i names

  below_fresh : (kept : Columns) → Kept layers kept → (j : ℕ) → j < i → get_or kept.closures j 0 ≡ fresh_of layers j
  below_fresh kept k j h = (k.fresh j (let l : j < 64 = omega arith in l)).closure

  own_closure : (kept : Columns) → Kept layers kept → own_in kept ≡ rested_on after i
  own_closure kept k = sym (rested_own layers i names room small new kept.closures (below_fresh kept k))

  -- no layer below the new one rests on it
  up_to : (kept : Columns) → Kept layers kept → (n : ℕ) → n ≤ i → Halfway layers after n kept
  up_to kept k zero h = at_first layers after kept k
  up_to kept k (suc n) h =
      let one : n + 1 ≡ suc n = omega arith in
      let below : n < 64 = omega arith in
      subst (λ (m : ℕ). Halfway layers after m kept) one
      (by_leaving layers after n kept below (up_to kept k n (omega arith))
      (same_at kept n (λ e. omega arith) (ap (λ (s : ℕ). has s i) (k.fresh n below).closure ∙ no_rest (is_layer layers n)) (k.fresh n below)))
    where
      no_rest : (b : Bool) → has (cond b (rested_on layers n) 0) i ≡ false
      no_rest true = not_above layers n i (omega arith)
      no_rest false = has_none i

  start : (kept : Columns) → Kept layers kept → Halfway layers after (i + 1) (stored_at after.present (own_in kept) i kept)
  start kept k =
      by_storing layers after i kept small (up_to kept k i (omega arith)) after.present (own_in kept) refl
      (sym (fresh_own layers i names room small new kept.closures (below_fresh kept k)))

  next : (k own : ℕ) (kept : Columns) → i < k → k < 64 → own ≡ rested_on after i → Halfway layers after k kept
      → Halfway layers after (k + 1) (grown_at after.present own i k kept)
  next k own kept above inside is-own half = go (has (get_or kept.closures k 0) i) refl (half.left k (omega arith) inside)
    where
      go : (b : Bool) → has (get_or kept.closures k 0) i ≡ b → FreshAt layers kept k
          → Halfway layers after (k + 1) (cond b (stored_at after.present (joined (get_or kept.closures k 0) own) k kept) kept)
      go true e f =
          by_storing layers after k kept inside half after.present (joined (get_or kept.closures k 0) own) refl
          (ap₂ joined f.closure is-own
          ∙ sym (fresh_more layers i names room small new k (λ s. omega arith) (ap (λ (s : ℕ). has s i) (sym f.closure) ∙ e)))
      go false e f = by_leaving layers after k kept inside half (same_at kept k (λ s. omega arith) e f)

  -- THE WHOLE: the new layer's closure, and what comes to those that rest on it
  pub added_kept : (kept : Columns) → Kept layers kept → Kept after (columns_added layers.present i names kept)
  unfolding columns_added
  added_kept kept k =
      stepped layers after (grown_at after.present (own_in kept) i) i small
      (λ m now above inside half. next m (own_in kept) now above inside (own_closure kept k) half)
      (stored_at after.present (own_in kept) i kept) (start kept k)
