-- The answer from what is kept is the answer of `closure`.
-- Assumes nothing.
use Rattle.std.specs.Prelude.{Err, Ok}
use Prim.Native.Nat.{ℕ, ◌^◌, ◌≤◌, ◌<◌}
use mathlib.Core.Bool.{Bool, true, false, cond, ◌&&◌}
use mathlib.Core.List.{List}
use mathlib.Core.Path.{◌≡◌, refl, sym, ap, ap₂, ◌∙◌, subst}
use native.Mathlib.Omega.{arith}
use native.Mathlib.Nat.{le_refl}
use borrow.Author.Tests.{eqb-true, eqb-false, lt-ltb, ltb-true, not-true, not-false}
use lib.Dec.{eqb, ltb}
use lib.ListN.{get_or}
use Rattle.combinators.specs.Bools.{both_left, same_test, both_right}
use Rattle.sets.specs.Sets.{has, without, below, lowest}
use Rattle.sets.proofs.Laws.{has_below, below_within, same_members}
use Rattle.vocabulary.specs.declared.refusal.Refusal.TheVariants.{NoSuchLayer, EmbeddedLayerAbsent}
use Rattle.closure.specs.declared.Layers.{Layers}
use Rattle.closure.specs.Closures.{is_layer, rested_on, closure_of}
use Rattle.closure.proofs.Reached.{member_rests_on, rests_on_at_most}
use Rattle.closure.proofs.Scan.{no_layer_lem, none_missing, one_missing, empty_none_missing, some_missing, lowest_missing}
use Rattle.kept_closures.specs.declared.Columns.{Columns}
use Rattle.kept_closures.specs.Kept.{FreshAt, Kept, answer_kept}

-- a closure is a set of 64 indices
pub closure_small : (layers : Layers) (target : ℕ) → target < 64 → rested_on layers target < 2 ^ 64
closure_small layers target h =
    subst (λ (s : ℕ). s < 2 ^ 64) (same_members (below (rested_on layers target) 64) (rested_on layers target) each) (below_within 64 (rested_on layers target) 64 (le_refl 64))
  where
    each : (j : ℕ) → has (below (rested_on layers target) 64) j ≡ has (rested_on layers target) j
    each j =
        has_below (rested_on layers target) 64 j
        ∙ same_test (ltb j 64 && has (rested_on layers target) j) (has (rested_on layers target) j) (both_right (ltb j 64) (has (rested_on layers target) j))
        (λ t. ap₂ ◌&&◌ (lt-ltb j 64 (let at_most : j ≤ target = rests_on_at_most layers target j (member_rests_on layers target j t) in omega arith)) t)

-- ---- the answer's cases

module _ (present : ℕ) (closures : List ℕ) (absents : List Bool) (target : ℕ) where
  pub not_there : ltb target 64 && has present target ≡ false → Err NoSuchLayer ≡ answer_kept present closures absents target
  not_there e =
      ap (λ (b : Bool). cond b
      (cond (get_or absents target false) (Err (EmbeddedLayerAbsent (record { 0 = lowest (without (get_or closures target 0) present) }))) (Ok (get_or closures target 0)))
      (Err NoSuchLayer)) (sym e)

  module _ (inside : target < 64) (there : has present target ≡ true) where
    given : (b : Bool) → get_or absents target false ≡ b
        → cond b (Err (EmbeddedLayerAbsent (record { 0 = lowest (without (get_or closures target 0) present) }))) (Ok (get_or closures target 0))
        ≡ answer_kept present closures absents target
    given b e =
        ap₂ (λ (x y : Bool). cond x
        (cond y (Err (EmbeddedLayerAbsent (record { 0 = lowest (without (get_or closures target 0) present) }))) (Ok (get_or closures target 0)))
        (Err NoSuchLayer)) (sym (ap₂ ◌&&◌ (lt-ltb target 64 inside) there)) (sym e)

    pub one_absent_there : (index : ℕ) → index ≡ lowest (without (get_or closures target 0) present) → get_or absents target false ≡ true
        → Err (EmbeddedLayerAbsent (record { 0 = index })) ≡ answer_kept present closures absents target
    one_absent_there index same e = ap (λ (i : ℕ). Err (EmbeddedLayerAbsent (record { 0 = i }))) same ∙ given true e

    pub all_there : get_or absents target false ≡ false → Ok (get_or closures target 0) ≡ answer_kept present closures absents target
    all_there e = given false e

-- ---- and that it is the one of `closure`

pub answer_kept_lem : (layers : Layers) (kept : Columns) → Kept layers kept → (target : ℕ)
    → answer_kept layers.present kept.closures kept.absents target ≡ closure_of layers target
answer_kept_lem layers kept k target = go (is_layer layers target) refl
  where
    go : (b : Bool) → is_layer layers target ≡ b
        → cond b
        (cond (get_or kept.absents target false) (Err (EmbeddedLayerAbsent (record { 0 = lowest (without (get_or kept.closures target 0) layers.present) })))
        (Ok (get_or kept.closures target 0)))
        (Err NoSuchLayer)
        ≡ closure_of layers target
    go false e = no_layer_lem layers target e
    go true e = by_flag (get_or kept.absents target false) refl
      where
        inside : target < 64
        inside = ltb-true target 64 (both_left (ltb target 64) (has layers.present target) e)

        f : FreshAt layers kept target
        f = k.fresh target inside

        rests : get_or kept.closures target 0 ≡ rested_on layers target
        rests = f.closure ∙ ap (λ (b : Bool). cond b (rested_on layers target) 0) e

        by_flag : (b : Bool) → get_or kept.absents target false ≡ b
            → cond b (Err (EmbeddedLayerAbsent (record { 0 = lowest (without (get_or kept.closures target 0) layers.present) }))) (Ok (get_or kept.closures target 0))
            ≡ closure_of layers target
        by_flag true t =
            one_missing layers target (get_or kept.closures target 0) e rests _
            (some_missing layers (get_or kept.closures target 0) (without (get_or kept.closures target 0) layers.present) refl
            (subst (λ (s : ℕ). s < 2 ^ 64) (sym rests) (closure_small layers target inside))
            (eqb-false (without (get_or kept.closures target 0) layers.present) 0 (not-true (eqb (without (get_or kept.closures target 0) layers.present) 0) (sym f.one_absent ∙ t))))
            (lowest_missing layers (get_or kept.closures target 0) (without (get_or kept.closures target 0) layers.present) refl)
        by_flag false t =
            none_missing layers target (get_or kept.closures target 0) e rests
            (empty_none_missing layers (get_or kept.closures target 0) (without (get_or kept.closures target 0) layers.present) refl
            (eqb-true (without (get_or kept.closures target 0) layers.present) 0 (not-false (eqb (without (get_or kept.closures target 0) layers.present) 0) (sym f.one_absent ∙ t))))
