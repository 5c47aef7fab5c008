-- The stored values mean what they should exactly where each is the one that would be worked out afresh: `Stored` of every index is `Kept` of the columns.
-- Assumes nothing.
use Prim.Native.Nat.{ℕ, ◌^◌, ◌≤◌, ◌<◌}
use mathlib.Core.Bool.{Bool, true, false, not, cond, ◌&&◌}
use mathlib.Core.Path.{◌≡◌, refl, sym, ap, ap₂, ◌∙◌, subst}
use native.Mathlib.Omega.{arith}
use borrow.Author.Tests.{eqb-true, eqb-false, not-true}
use lib.Dec.{eqb, ltb}
use lib.ListN.{get_or}
use Rattle.combinators.specs.Bools.{both_left, both_right, both_ways, same_test}
use Rattle.sets.specs.Sets.{has, without, size, lowest}
use Rattle.sets.proofs.Laws.{has_none, has_without, same_members, without_within, lowest_member}
use Rattle.closure.specs.declared.Layers.{Layers}
use Rattle.closure.specs.Closures.{is_layer, rested_on}
use Rattle.closure.specs.Meaning.{RestsOn, Missing}
use Rattle.closure.proofs.Reached.{member_rests_on, rests_on_member, rests_on_at_most}
use Rattle.closure.proofs.Scan.{is_layer_lem}
use Rattle.kept_closures.specs.Kept.{lacks_one, FreshAt, Kept}
use Rattle.kept_closures.proofs.Answered.{closure_small}
use Rattle.kept_closures.proofs.Worked.{lacks_none}
use Rattle.layer_set.specs.declared.«set».LayerSet.{LayerSet}
use Rattle.layer_set.specs.Sets.{stored_in}
use Rattle.layer_set.specs.Meaning.{Stored, of_layer_lem, of_none, IsSet}

no_size : size 0 ≡ 0
unfolding size
no_size = refl

-- a closure that lacks a layer, and the missing one
module _ (layers : Layers) (i closure : ℕ) (inside : i < 64) (rests : closure ≡ rested_on layers i) where
  lacking : lacks_one layers.present closure ≡ true → (j : ℕ) × Missing layers i j
  lacking e =
      let rest : ℕ = without closure layers.present in
      let small : rest < 2 ^ 64 = without_within 64 closure layers.present (subst (λ (c : ℕ). c < 2 ^ 64) (sym rests) (closure_small layers i inside)) in
      let found : has rest (lowest rest) ≡ true = lowest_member rest small (eqb-false rest 0 (not-true (eqb rest 0) e)) in
      let parts : has closure (lowest rest) && not (has layers.present (lowest rest)) ≡ true = sym (has_without closure layers.present (lowest rest)) ∙ found in
      let rested : RestsOn layers i (lowest rest) =
      member_rests_on layers i (lowest rest) (sym (ap (λ (c : ℕ). has c (lowest rest)) rests) ∙ both_left (has closure (lowest rest)) (not (has layers.present (lowest rest))) parts) in (
        lowest rest,
        record {
          rested_on = rested;
          not_in_loop =
              gone (ltb (lowest rest) 64) (not-true (has layers.present (lowest rest)) (both_right (has closure (lowest rest)) (not (has layers.present (lowest rest))) parts));
        },
      )
    where
      gone : (a : Bool) {b : Bool} → b ≡ false → a && b ≡ false
      gone true e = e
      gone false e = refl

  lacked : (j : ℕ) → Missing layers i j → lacks_one layers.present closure ≡ true
  lacked j m = go (eqb (without closure layers.present) 0) refl
    where
      small : j < 64
      small = let at_most : j ≤ i = rests_on_at_most layers i j m.rested_on in omega arith

      there : has (without closure layers.present) j ≡ true
      there =
          has_without closure layers.present j
          ∙ ap₂ (λ (a b : Bool). a && not b) (ap (λ (c : ℕ). has c j) rests ∙ rests_on_member layers i j m.rested_on) (sym (is_layer_lem layers j small) ∙ m.not_in_loop)

      go : (b : Bool) → eqb (without closure layers.present) 0 ≡ b → not b ≡ true
      go true e = both_ways there (ap (λ (c : ℕ). has c j) (eqb-true (without closure layers.present) 0 e) ∙ has_none j)
      go false e = refl

module _ (s : LayerSet) (i : ℕ) (inside : i < 64) where
  abbrev closure : ℕ
  closure = get_or s.stored.closures i 0

  -- what is kept means what it should,
  pub fresh_stored : FreshAt s.layers (stored_in s) i → Stored s i
  fresh_stored f = go (is_layer s.layers i) refl
    where
      go : (b : Bool) → is_layer s.layers i ≡ b → Stored s i
      go true e =
          let rests : closure ≡ rested_on s.layers i = f.closure ∙ ap (λ (b : Bool). cond b (rested_on s.layers i) 0) e in
          of_layer_lem e
          (λ j. ((λ t. member_rests_on s.layers i j (sym (ap (λ (c : ℕ). has c j) rests) ∙ t)), (λ r. ap (λ (c : ℕ). has c j) rests ∙ rests_on_member s.layers i j r)))
          f.layers_in_it
          ((λ t. lacking s.layers i closure inside rests (sym f.one_absent ∙ t)), (λ m. f.one_absent ∙ lacked s.layers i closure inside rests m.0 m.1))
      go false e =
          let none : closure ≡ 0 = f.closure ∙ ap (λ (b : Bool). cond b (rested_on s.layers i) 0) e in
          of_none e none (f.layers_in_it ∙ ap size none ∙ no_size) (f.one_absent ∙ ap (lacks_one s.layers.present) none ∙ lacks_none s.layers s.layers.present)

  -- and what means that is kept.
  pub stored_fresh : Stored s i → FreshAt s.layers (stored_in s) i
  stored_fresh (of_layer_lem e members count absent) =
      let rests : closure ≡ rested_on s.layers i =
      same_members closure (rested_on s.layers i)
      (λ j. same_test (has closure j) (has (rested_on s.layers i) j) (λ t. rests_on_member s.layers i j ((members j).0 t)) (λ t. (members j).1 (member_rests_on s.layers i j t))) in
      record {
        closure = rests ∙ ap (λ (b : Bool). cond b (rested_on s.layers i) 0) (sym e);
        layers_in_it = count;
        one_absent =
            same_test (get_or s.stored.absents i false) (lacks_one s.layers.present closure)
            (λ t. let m = absent.0 t in lacked s.layers i closure inside rests m.0 m.1)
            (λ t. absent.1 (lacking s.layers i closure inside rests t));
      }
  stored_fresh (of_none e none no_count no-absent) =
      record {
        closure = none ∙ ap (λ (b : Bool). cond b (rested_on s.layers i) 0) (sym e);
        layers_in_it = no_count ∙ sym (ap size none ∙ no_size);
        one_absent = no-absent ∙ sym (ap (lacks_one s.layers.present) none ∙ lacks_none s.layers s.layers.present);
      }

pub kept_stored : (s : LayerSet) → Kept s.layers (stored_in s) → (i : ℕ) → i < 64 → Stored s i
kept_stored s k i h = fresh_stored s i h (k.fresh i h)

pub set_kept : (s : LayerSet) → IsSet s → Kept s.layers (stored_in s)
set_kept s is =
    record {
      places = record { of_closures = is.places.of_closures; of_sizes = is.places.of_sizes; of_absents = is.places.of_absents };
      fresh = λ i h. stored_fresh s i h (is.stored i h);
    }
