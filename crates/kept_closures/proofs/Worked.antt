-- What is worked out afresh meets the invariant, and nothing else does: two sets of columns that meet it are the same. And how it is worked out, the lower indices
-- first.
-- Assumes nothing.
use Prim.Native.Nat.{ℕ, ◌+◌, ◌<◌, ◌≤◌}
use mathlib.Core.Bool.{Bool, true, false, not, cond, ◌&&◌}
use mathlib.Core.List.{List}
use mathlib.Core.Path.{◌≡◌, refl, sym, ap, ap₂, ◌∙◌}
use native.Mathlib.Decide.{ℕ_discrete}
use native.Mathlib.Omega.{arith}
use borrow.Author.Tests.{lt-ltb}
use lib.Dec.{eqb, ltb}
use lib.ListN.{length, get_or, set, replicate, length-set, get_or-replicate}
use lib.Seq.{get_or-set_same, get_or-set_other}
use Rattle.combinators.specs.Each.{each_below, length_each, each_at, each_only}
use Rattle.sets.specs.Sets.{has, without, size}
use Rattle.sets.proofs.Laws.{has_none, has_without, same_members}
use Rattle.closure.specs.declared.Layers.{Layers}
use Rattle.closure.specs.Closures.{is_layer, rested_on}
use Rattle.kept_closures.specs.declared.Columns.{Columns}
use Rattle.kept_closures.specs.Kept.{columns, layers_by, fresh_of, lacks_one, stored_at, FreshAt, Kept, closure_over, steps_from, fresh_columns, worked_by, no_columns}
use Rattle.kept_closures.proofs.Fresh.{put_together}
use Rattle.kept_closures.proofs.Steps.{Halfway, by_storing, by_leaving, all_stepped}

-- ---- the invariant, met by what is worked out afresh and by nothing else

pub fresh_kept : (layers : Layers) → Kept layers (fresh_columns layers)
unfolding fresh_columns
fresh_kept layers =
    record {
      places = record { of_closures = length_each (fresh_of layers) 64; of_sizes = length_each (λ i. size (fresh_of layers i)) 64; of_absents = length_each (λ i. lacks_one layers.present (fresh_of layers i)) 64 };
      fresh = λ i h. record {
        closure = each_at (fresh_of layers) 64 i 0 h;
        layers_in_it = each_at (λ i. size (fresh_of layers i)) 64 i 0 h ∙ ap size (sym (each_at (fresh_of layers) 64 i 0 h));
        one_absent = each_at (λ i. lacks_one layers.present (fresh_of layers i)) 64 i false h ∙ ap (lacks_one layers.present) (sym (each_at (fresh_of layers) 64 i 0 h));
      };
    }

pub kept_only : (layers : Layers) (kept : Columns) → Kept layers kept → kept ≡ fresh_columns layers
unfolding fresh_columns
kept_only layers kept k =
    parts
    (each_only (fresh_of layers) kept.closures 64 0 k.places.of_closures (λ i h. (k.fresh i h).closure))
    (each_only (λ i. size (fresh_of layers i)) kept.sizes 64 0 k.places.of_sizes (λ i h. (k.fresh i h).layers_in_it ∙ ap size (k.fresh i h).closure))
    (each_only (λ i. lacks_one layers.present (fresh_of layers i)) kept.absents 64 false k.places.of_absents
    (λ i h. (k.fresh i h).one_absent ∙ ap (lacks_one layers.present) (k.fresh i h).closure))
  where
    parts : {c c' s s' : List ℕ} {a a' : List Bool} → c ≡ c' → s ≡ s' → a ≡ a' → columns c s a ≡ columns c' s' a'
    parts {c} {c'} {s} {s'} {a} {a'} p q r = ap₂ (λ (x y : List ℕ). columns x y a) p q ∙ ap (columns c' s') r

-- ---- how it is worked out

module _ (layers : Layers) where
  -- before anything is: as with no layer
  abbrev no_layer : Layers
  no_layer = layers_by 0 layers.embedded

  pub lacks_none : (present : ℕ) → lacks_one present 0 ≡ false
  lacks_none present = ap (λ (s : ℕ). not (eqb s 0)) (same_members (without 0 present) 0 (λ m. has_without 0 present m ∙ ap (λ (b : Bool). b && not (has present m)) (has_none m) ∙ sym (has_none m)))

  no_fresh : (i : ℕ) → fresh_of no_layer i ≡ 0
  no_fresh i = ap (λ (b : Bool). cond b (rested_on no_layer i) 0) (none (ltb i 64) (has_none i))
    where
      none : (a : Bool) {b : Bool} → b ≡ false → a && b ≡ false
      none true e = e
      none false e = refl

  no_size : size 0 ≡ 0
  unfolding size
  no_size = refl

  at_start : Halfway no_layer layers 0 no_columns
  at_start =
      record {
        places = record { of_closures = refl; of_sizes = refl; of_absents = refl };
        done = λ m h l. absurd (omega arith);
        left = λ m h l.
            let at : ◌≡◌ {A = ℕ} (get_or (replicate 64 0) m 0) 0 = get_or-replicate 64 m 0 0 l in
            record {
              closure = at ∙ sym (no_fresh m);
              layers_in_it = at ∙ sym (ap size at ∙ no_size);
              one_absent = get_or-replicate 64 m false false l ∙ sym (ap (lacks_one 0) at ∙ lacks_none 0);
            };
      }

  abbrev step : ℕ → Columns → Columns
  step = worked_by layers.present layers.embedded

  next : (k : ℕ) (kept : Columns) → 0 ≤ k → k < 64 → Halfway no_layer layers k kept → Halfway no_layer layers (k + 1) (step k kept)
  next k kept low inside half = go (has layers.present k) refl (half.left k (omega arith) inside)
    where
      layer : {b : Bool} → has layers.present k ≡ b → is_layer layers k ≡ b
      layer e = ap₂ ◌&&◌ (lt-ltb k 64 inside) e

      go : (b : Bool) → has layers.present k ≡ b → FreshAt no_layer kept k
          → Halfway no_layer layers (k + 1) (cond b (stored_at layers.present (closure_over kept.closures k (get_or layers.embedded k 0)) k kept) kept)
      go true e f =
          by_storing no_layer layers k kept inside half layers.present (closure_over kept.closures k (get_or layers.embedded k 0)) refl
          (put_together layers kept.closures k (layer e) (λ j h. (half.done j h (let l : j < 64 = omega arith in l)).closure)
          ∙ ap (λ (b : Bool). cond b (rested_on layers k) 0) (sym (layer e)))
      go false e f =
          let none : get_or kept.closures k 0 ≡ 0 = f.closure ∙ no_fresh k in
          by_leaving no_layer layers k kept inside half
          (record {
            closure = none ∙ ap (λ (b : Bool). cond b (rested_on layers k) 0) (sym (layer e));
            layers_in_it = f.layers_in_it;
            one_absent = f.one_absent ∙ ap (lacks_one 0) none ∙ lacks_none 0 ∙ sym (ap (lacks_one layers.present) none ∙ lacks_none layers.present);
          })

  pub worked_out : steps_from (worked_by layers.present layers.embedded) 0 64 no_columns ≡ fresh_columns layers
  worked_out = kept_only layers (steps_from step 0 64 no_columns) (all_stepped no_layer layers step 0 64 no_columns refl next at_start)

-- ---- the closures alone, index by index

pub record Worked (layers : Layers) (closures : List ℕ) (index : ℕ) : Type 0 where
  pub long : length closures ≡ 64
  pub done : (j : ℕ) → j < index → get_or closures j 0 ≡ fresh_of layers j

module _ (layers : Layers) where
  pub each_start : Worked layers (replicate 64 0) 0
  each_start = record { long = refl; done = λ j h. absurd (omega arith) }

  pub each_next : (closures : List ℕ) (index closure : ℕ) → index < 64 → Worked layers closures index
      → closure ≡ cond (has layers.present index) (closure_over closures index (get_or layers.embedded index 0)) 0
      → Worked layers (set closures index closure) (index + 1)
  each_next closures index closure small known e =
      record {
        long = length-set closures index closure ∙ known.long;
        done = λ j h. go j h (ℕ_discrete j index);
      }
    where
      layer_here : is_layer layers index ≡ has layers.present index
      layer_here = ap (λ (b : Bool). b && has layers.present index) (lt-ltb index 64 small)

      here : (b : Bool) → has layers.present index ≡ b → cond b (closure_over closures index (get_or layers.embedded index 0)) 0 ≡ cond b (rested_on layers index) 0
      here true m = put_together layers closures index (layer_here ∙ m) known.done
      here false m = refl

      go : (j : ℕ) → j < index + 1 → Dec (j ≡ index) → get_or (set closures index closure) j 0 ≡ fresh_of layers j
      go j h (yes p) =
          ap (λ (k : ℕ). get_or (set closures index closure) k 0) p
          ∙ get_or-set_same closures index closure 0 (omega (arith, known.long))
          ∙ e
          ∙ here (has layers.present index) refl
          ∙ ap (λ (b : Bool). cond b (rested_on layers index) 0) (sym layer_here)
          ∙ ap (fresh_of layers) (sym p)
      go j h (no p) = get_or-set_other closures index j closure 0 p ∙ known.done j (omega arith)

  pub each_end : (closures : List ℕ) (index : ℕ) → 64 ≤ index → Worked layers closures index → closures ≡ each_below (fresh_of layers) 64
  each_end closures index past known = each_only (fresh_of layers) closures 64 0 known.long (λ j h. known.done j (omega arith))
