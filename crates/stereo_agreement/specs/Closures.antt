-- The closures in a loop that has the two layers and no other.
-- Assumes nothing.
use Rattle.std.specs.Prelude.{ℕ, zero, suc, ◌<◌, ◌≡◌, refl, ◌⊎◌, true, List, Ok}
use Rattle.std.proofs.Common.{sym, ◌∙◌, ap, subst, inl, inr, ⊎_elim, arith}
use Rattle.combinators.specs.Lists.{Nth, nth_one}
use Rattle.combinators.specs.Members.{member}
use Rattle.sets.specs.Sets.{has}
use Rattle.sets.proofs.Laws.{has_within}
use Rattle.loop_entries.specs.declared.Entry.{Entry}
use Rattle.closure.specs.declared.Layers.{Layers}
use Rattle.closure.specs.Closures.{is_layer, closure_of}
use Rattle.closure.specs.Meaning.{Names, RestsOn, itself, by, complete}
use Rattle.closure.proofs.Meant.{closure_only}
use Rattle.loop_layers.specs.Layers.{layers_of}
use Rattle.loop_layers.specs.Meaning.{LayerAt, LayerOf}
use Rattle.loop_layers.proofs.Meant.{layers_meant}
use Rattle.stereo_set.specs.Two.{TwoLayers}

module _ (entries : List Entry) {base second : Entry} (two : TwoLayers entries base second) where
  abbrev layers : Layers
  layers = layers_of entries

  -- a layer of the loop is one of the two
  one_of_two : {k i : ℕ} {e : Entry} → LayerAt entries k i e → ((k ≡ two.base_place) × (e ≡ base) × (i ≡ 0)) ⊎ ((k ≡ two.second_place) × (e ≡ second) × (i ≡ 1))
  one_of_two {k} {i} {e} l = go (two.no_other k e (record { entry = l.entry; layer = l.layer }))
    where
      go : (k ≡ two.base_place) ⊎ (k ≡ two.second_place) → ((k ≡ two.base_place) × (e ≡ base) × (i ≡ 0)) ⊎ ((k ≡ two.second_place) × (e ≡ second) × (i ≡ 1))
      go (inl p) =
          let same : e ≡ base = nth_one (subst (λ (j : ℕ). Nth entries j e) p l.entry) two.is_base.stands.entry in
          inl (p, same, sym l.index ∙ ap Rattle.stereo_set.specs.Views.index_in same ∙ two.is_base.indexed)
      go (inr p) =
          let same : e ≡ second = nth_one (subst (λ (j : ℕ). Nth entries j e) p l.entry) two.is_second.stands.entry in
          inr (p, same, sym l.index ∙ ap Rattle.stereo_set.specs.Views.index_in same ∙ two.is_second.indexed)

  base_layer : LayerOf entries 0 base
  base_layer =
      record {
        six_bits = omega arith;
        place = two.base_place;
        at_place = record { entry = two.is_base.stands.entry; layer = two.is_base.stands.layer; index = two.is_base.indexed };
        last = λ k x h l. ⊎_elim (λ w. (let p = w.0 in omega arith)) (λ w. (let p = w.2 in omega arith)) (one_of_two l);
      }

  second_layer : LayerOf entries 1 second
  second_layer =
      record {
        six_bits = omega arith;
        place = two.second_place;
        at_place = record { entry = two.is_second.stands.entry; layer = two.is_second.stands.layer; index = two.is_second.indexed };
        last = λ k x h l. ⊎_elim (λ w. (let p = w.2 in omega arith)) (λ w. (let p = w.0 in omega arith)) (one_of_two l);
      }

  base_there : is_layer layers 0 ≡ true
  base_there = ((layers_meant entries).present 0).1 (record { entry = base; layer = base_layer })

  second_there : is_layer layers 1 ≡ true
  second_there = ((layers_meant entries).present 1).1 (record { entry = second; layer = second_layer })

  -- the base names nothing, the second names the base alone
  base_names_none : (j : ℕ) → Names layers 0 j → ⊥
  base_names_none j n = let l = n.lower in omega arith

  second_names : (j : ℕ) → Names layers 1 j → j ≡ 0
  second_names j n = let l = n.lower in omega arith

  second_names_base : Names layers 1 0
  second_names_base =
      record {
        in_loop = second_there;
        embedded = ((layers_meant entries).embedded 1 0).1
            (record { entry = second; layer = second_layer; listed = ap (member 0) two.is_second.rests_on; six_bits = omega arith });
        lower = omega arith;
      }

  rests_0 : {j : ℕ} → RestsOn layers 0 j → j ≡ 0
  rests_0 itself = refl
  rests_0 (by {i} {j} r n) = absurd (base_names_none j (subst (λ (m : ℕ). Names layers m j) (rests_0 r) n))

  rests_1 : {j : ℕ} → RestsOn layers 1 j → (j ≡ 0) ⊎ (j ≡ 1)
  rests_1 itself = inr refl
  rests_1 (by {i} {j} r n) =
      ⊎_elim (λ p. absurd (base_names_none j (subst (λ (m : ℕ). Names layers m j) p n))) (λ p. inl (second_names j (subst (λ (m : ℕ). Names layers m j) p n))) (rests_1 r)

  -- OF TARGET 0 itself alone: the set whose only member is 0
  pub closure_of_0 : closure_of layers 0 ≡ Ok 1
  closure_of_0 = sym (closure_only layers 0 (complete base_there (record { members = λ j. (to j, from j); in_loop = λ j r. subst (λ (m : ℕ). is_layer layers m ≡ true) (sym (rests_0 r)) base_there })))
    where
      to : (j : ℕ) → has 1 j ≡ true → RestsOn layers 0 j
      to zero e = itself
      to (suc j) e = absurd (let h : suc j < 1 = has_within 1 {s = 1} {i = suc j} (omega arith) e in omega arith)

      from : (j : ℕ) → RestsOn layers 0 j → has 1 j ≡ true
      from j r = ap (has 1) (rests_0 r)

  -- OF TARGET 1 the two: the set whose members are 0 and 1
  pub closure_of_1 : closure_of layers 1 ≡ Ok 3
  closure_of_1 = sym (closure_only layers 1 (complete second_there (record { members = λ j. (to j, from j); in_loop = λ j r. there j (rests_1 r) })))
    where
      there : (j : ℕ) → (j ≡ 0) ⊎ (j ≡ 1) → is_layer layers j ≡ true
      there j (inl p) = subst (λ (m : ℕ). is_layer layers m ≡ true) (sym p) base_there
      there j (inr p) = subst (λ (m : ℕ). is_layer layers m ≡ true) (sym p) second_there

      to : (j : ℕ) → has 3 j ≡ true → RestsOn layers 1 j
      to zero e = by itself second_names_base
      to (suc zero) e = itself
      to (suc (suc j)) e = absurd (let h : suc (suc j) < 2 = has_within 2 {s = 3} {i = suc (suc j)} (omega arith) e in omega arith)

      from : (j : ℕ) → RestsOn layers 1 j → has 3 j ≡ true
      from j r = ⊎_elim (λ p. ap (has 3) p) (λ p. ap (has 3) p) (rests_1 r)
