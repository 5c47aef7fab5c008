-- The layers of a loop judged as a set, wherever they come from: two layers as they are meant decide it, and where there are none it is 44.
-- Assumes nothing.
use Rattle.std.specs.Prelude.{Err, Ok}
use Prim.Native.Nat.{ℕ, ◌<◌}
use mathlib.Core.Path.{◌≡◌, refl, sym, ◌∙◌, ap, subst}
use mathlib.Core.Logic.{◌⊎◌, inl, inr}
use mathlib.Core.Bool.{Bool, true, false, cond, ◌&&◌}
use mathlib.Core.List.{List, [], ◌∷◌, map}
use native.Mathlib.Omega.{arith}
use borrow.Author.Tests.{eqb-true, eq-eqb}
use lib.Dec.{eqb}
use Rattle.combinators.specs.Bools.{both_left, both_right}
use Rattle.combinators.specs.Lists.{Nth, nth_one, nth_map, nth_of_map}
use Rattle.vocabulary.specs.declared.refusal.Refusal.TheVariants.{NotStereoSet, WrongMvcExtension, RangesMeet}
use Rattle.records.specs.Records.{is_layer, index_of, named}
use Rattle.judging.specs.Judging.{type_not_allowed, wrong_embedded}
use Rattle.loop_entries.specs.declared.Entry.{Entry}
use Rattle.es_loop.specs.Answer.{Outcome}
use Rattle.mvc_extension.specs.declared.MvcExtension.{MvcExtension}
use Rattle.mvc_extension.specs.Ranges.{wrong_ranges}
use Rattle.mvc_descriptors.specs.declared.Found.{Found}
use Rattle.mvc_descriptors.specs.declared.Found.TheVariants.{Missing, One, Wrong}
use Rattle.stereo_set.specs.declared.views.View.{View}
use Rattle.stereo_set.specs.declared.set.StereoRead.{StereoRead}
use Rattle.stereo_set.specs.Views.{index_in, is_base_layer, is_second_layer, layers_among}
use Rattle.stereo_set.specs.Set.{refused_set, accepted_set, found_judged, described_set, arranged, set_of}
use Rattle.stereo_set.specs.Two.{LayerAt, LayerOf, TwoLayers}
use Rattle.stereo_set.proofs.Named.{base_names, second_names}
use Rattle.stereo_set.proofs.Places.{LayerPlace, TwoPlaces, ThreePlaces, Placed, no_place, one_place, two_places, more_places, placed}

-- what is looked at of an entry that is not refused with 6 or 9
pub record Fine (e : Entry) : Type 0 where
  pub given : Bool
  pub six : type_not_allowed given e.stream_type e.«record» ≡ false
  pub nine : wrong_embedded e.stream_type e.«record» e.embedded ≡ false

module _ (vs : List View) where
  abbrev pub entries_in : List Entry
  entries_in = map (λ (v : View). v.entry) vs

  entry_there : {k : ℕ} {v : View} → Nth vs k v → Nth entries_in k v.entry
  entry_there n = nth_map (λ (v : View). v.entry) n

  place_layer : {k : ℕ} {v : View} → LayerPlace vs k v → LayerAt entries_in k v.entry
  place_layer p = record { entry = entry_there p.stands; layer = p.layer }

  layer_place : {k : ℕ} {e : Entry} {v : View} → LayerAt entries_in k e → Nth vs k v → LayerPlace vs k v
  layer_place l n = record { stands = n; layer = ap (λ (x : Entry). is_layer x.«record») (nth_one (entry_there n) l.entry) ∙ l.layer }

  -- SO THAT THE SET IS JUDGED BY THEM.
  module _ {base second : Entry} (two : TwoLayers entries_in base second) {a b : View} (at_base : Nth vs two.base_place a) (at_second : Nth vs two.second_place b) where
    base_here : LayerPlace vs two.base_place a
    base_here = layer_place two.is_base.stands at_base

    second_here : LayerPlace vs two.second_place b
    second_here = layer_place two.is_second.stands at_second

    is_base_entry : a.entry ≡ base
    is_base_entry = nth_one (entry_there at_base) two.is_base.stands.entry

    is_second_entry : b.entry ≡ second
    is_second_entry = nth_one (entry_there at_second) two.is_second.stands.entry

    places_differ : two.base_place ≡ two.second_place → ⊥
    places_differ e =
        let same : base ≡ second =
        nth_one (subst (λ (k : ℕ). Nth entries_in k base) e two.is_base.stands.entry) two.is_second.stands.entry in
        let types : ◌≡◌ {A = ℕ} 0x1B 0x20 = sym two.is_base.type ∙ ap (λ (x : Entry). x.stream_type) same ∙ two.is_second.type in
        omega arith

    no_other_place : (i : ℕ) (v : View) → LayerPlace vs i v → (i ≡ two.base_place) ⊎ (i ≡ two.second_place)
    no_other_place i v p = two.no_other i v.entry (place_layer p)

    base_test : is_base_layer a.entry ≡ true
    base_test =
        ap is_base_layer is_base_entry
        ∙ rw two.is_base.type (eq-eqb (index_of 0x1B base.«record») 0 (sym (ap (λ (t : ℕ). index_of t base.«record») two.is_base.type) ∙ two.is_base.indexed))

    second_test : is_second_layer b.entry ≡ true
    second_test =
        ap is_second_layer is_second_entry
        ∙ rw two.is_second.type (eq-eqb (index_of 0x20 second.«record») 1 (sym (ap (λ (t : ℕ). index_of t second.«record») two.is_second.type) ∙ two.is_second.indexed))

    -- the second is no base
    second_not_base : is_base_layer b.entry ≡ false
    second_not_base = ap is_base_layer is_second_entry ∙ rw two.is_second.type

    one_view : {i j : ℕ} {v w : View} → LayerPlace vs i v → LayerPlace vs j w → i ≡ j → v ≡ w
    one_view {v = v} p q e = nth_one (subst (λ (k : ℕ). Nth vs k v) e p.stands) q.stands

    base_first : arranged a b ≡ described_set a b
    base_first = rw (base_test, second_test)

    second_first : arranged b a ≡ described_set a b
    second_first = rw (second_not_base, base_test, second_test)

    both : {x y : View} → TwoPlaces vs x y → arranged x y ≡ described_set a b
    both {x} {y} t = by (no_other_place t.first x t.at_first) (no_other_place t.second y t.at_second)
      where
        by : (t.first ≡ two.base_place) ⊎ (t.first ≡ two.second_place) → (t.second ≡ two.base_place) ⊎ (t.second ≡ two.second_place)
            → arranged x y ≡ described_set a b
        by (inl p) (inl q) = absurd (let h = t.order in omega arith)
        by (inl p) (inr q) =
            ap (λ (v : View). arranged v y) (one_view t.at_first base_here p) ∙ ap (arranged a) (one_view t.at_second second_here q) ∙ base_first
        by (inr p) (inl q) =
            ap (λ (v : View). arranged v y) (one_view t.at_first second_here p) ∙ ap (arranged b) (one_view t.at_second base_here q) ∙ second_first
        by (inr p) (inr q) = absurd (let h = t.order in omega arith)

    never : ThreePlaces vs → ⊥
    never t =
        by (no_other_place t.first t.a t.at_first) (no_other_place t.second t.b t.at_second) (no_other_place t.third t.c t.at_third)
        t.order t.later
      where
        by : {i j k m n : ℕ} → (i ≡ m) ⊎ (i ≡ n) → (j ≡ m) ⊎ (j ≡ n) → (k ≡ m) ⊎ (k ≡ n) → i < j → j < k → ⊥
        by (inl p) (inl q) r h l = omega arith
        by (inl p) (inr q) (inl r) h l = omega arith
        by (inl p) (inr q) (inr r) h l = omega arith
        by (inr p) (inl q) (inl r) h l = omega arith
        by (inr p) (inl q) (inr r) h l = omega arith
        by (inr p) (inr q) r h l = omega arith

    pub judged_by : set_of (layers_among vs) ≡ described_set a b
    judged_by = go (layers_among vs) (placed vs)
      where
        go : (ls : List View) → Placed vs ls → set_of ls ≡ described_set a b
        go [] (no_place f) = absurd (f two.base_place a base_here)
        go (x ∷ []) (one_place o) = absurd (places_differ (o.only two.base_place a base_here ∙ sym (o.only two.second_place b second_here)))
        go (x ∷ y ∷ []) (two_places t) = both t
        go (x ∷ y ∷ z ∷ others) (more_places t) = absurd (never t)

  -- WHAT THE LAYERS COME TO, where none is refused with 6 or 9.
  pub data SetCase : StereoRead → Type 0 where
    no_set : ((base second : Entry) → TwoLayers entries_in base second → ⊥) → SetCase (refused_set NotStereoSet)
    the_set : {a b : View} (two : TwoLayers entries_in a.entry b.entry) → Nth vs two.base_place a → Nth vs two.second_place b
        → SetCase (described_set a b)

  module _ (fine : (k : ℕ) (e : Entry) → Nth entries_in k e → Fine e) where
    -- a layer of this type and index names these layers
    layer_of : (t index : ℕ) (names : List ℕ)
        → ((f : Bool) (x : Entry) → is_layer x.«record» ≡ true → index_of t x.«record» ≡ index → type_not_allowed f t x.«record» ≡ false
        → wrong_embedded t x.«record» x.embedded ≡ false → named t x.«record» x.embedded ≡ names)
        → {k : ℕ} {v : View} → LayerPlace vs k v → eqb v.entry.stream_type t && eqb (index_in v.entry) index ≡ true
        → LayerOf entries_in k t index names v.entry
    layer_of t index names named-so {k} {v} p e =
        let x : Entry = v.entry in
        let is_type : x.stream_type ≡ t = eqb-true x.stream_type t (both_left (eqb x.stream_type t) (eqb (index_in x) index) e) in
        let is_index : index_in x ≡ index = eqb-true (index_in x) index (both_right (eqb x.stream_type t) (eqb (index_in x) index) e) in
        let f = fine k x (entry_there p.stands) in
        record {
          stands = place_layer p;
          type = is_type;
          indexed = is_index;
          rests_on = ap (λ (u : ℕ). named u x.«record» x.embedded) is_type
              ∙ named-so f.given x p.layer (sym (ap (λ (u : ℕ). index_of u x.«record») is_type) ∙ is_index)
              (sym (ap (λ (u : ℕ). type_not_allowed f.given u x.«record») is_type) ∙ f.six)
              (sym (ap (λ (u : ℕ). wrong_embedded u x.«record» x.embedded) is_type) ∙ f.nine);
        }

    -- two layers of these types and indices, and no other
    the_two : {j k : ℕ} {v w : View} → LayerPlace vs j v → LayerPlace vs k w → is_base_layer v.entry && is_second_layer w.entry ≡ true
        → ((i : ℕ) (u : View) → LayerPlace vs i u → (i ≡ j) ⊎ (i ≡ k)) → SetCase (described_set v w)
    the_two {j} {k} {v} {w} p q e only =
        the_set
        (record {
          base_place = j;
          second_place = k;
          is_base = layer_of 0x1B 0 [] (λ f x l i six nine. base_names f x.embedded x.«record» l i six nine) p (both_left (is_base_layer v.entry) (is_second_layer w.entry) e);
          is_second = layer_of 0x20 1 (0 ∷ []) (λ f x l i six nine. second_names f x.embedded x.«record» l i six nine) q (both_right (is_base_layer v.entry) (is_second_layer w.entry) e);
          no_other = λ i x l. every i x l;
        })
        p.stands
        q.stands
      where
        every : (i : ℕ) (x : Entry) → LayerAt entries_in i x → (i ≡ j) ⊎ (i ≡ k)
        every i x l = let u = nth_of_map (λ (z : View). z.entry) vs l.entry in only i u.0 (layer_place l u.1)

    swapped : {i j k : ℕ} → (i ≡ j) ⊎ (i ≡ k) → (i ≡ k) ⊎ (i ≡ j)
    swapped (inl e) = inr e
    swapped (inr e) = inl e

    -- what is judged by two layers is not 44
    abbrev NotFortyFour : Outcome → Type 0
    NotFortyFour (Ok tt) = Unit {0}
    NotFortyFour (Err r) = r ≡ NotStereoSet → ⊥

    forty_five : WrongMvcExtension ≡ NotStereoSet → ⊥
    forty_five e = let z : ◌≡◌ {A = ℕ} 0 1 = cc in omega arith

    forty_six : RangesMeet ≡ NotStereoSet → ⊥
    forty_six e = let z : ◌≡◌ {A = ℕ} 0 1 = cc in omega arith

    ranges : (b : Entry) (x : MvcExtension) (s : Entry) (y : MvcExtension) (w : Bool)
        → NotFortyFour (cond w (refused_set RangesMeet) (accepted_set b x s y)).outcome
    ranges b x s y true = forty_six
    ranges b x s y false = tt

    outcomes : (b s : Entry) (f g : Found) → NotFortyFour (found_judged b f s g).outcome
    outcomes b s Missing g = forty_five
    outcomes b s (One x) Missing = forty_five
    outcomes b s (One x) (One y) = ranges b x s y (wrong_ranges x y)
    outcomes b s (One x) Wrong = forty_five
    outcomes b s Wrong g = forty_five

    other : (a : StereoRead) → NotFortyFour a.outcome → a ≡ refused_set NotStereoSet → ⊥
    other a n e = subst NotFortyFour (ap (λ (x : StereoRead). x.outcome) e) n refl

    -- where the set is 44, there are no two such layers
    unless : (ls : List View) → layers_among vs ≡ ls → set_of ls ≡ refused_set NotStereoSet → SetCase (set_of ls)
    unless ls is e = subst SetCase (sym e) (no_set (λ base second two. go base second two))
      where
        go : (base second : Entry) → TwoLayers entries_in base second → ⊥
        go base second two =
            let u = nth_of_map (λ (z : View). z.entry) vs two.is_base.stands.entry in
            let w = nth_of_map (λ (z : View). z.entry) vs two.is_second.stands.entry in
            other (described_set u.0 w.0) (outcomes u.0.entry w.0.entry u.0.found w.0.found) (sym (judged_by two u.1 w.1) ∙ ap set_of is ∙ e)

    both_ways_round : (a b : View) → layers_among vs ≡ a ∷ b ∷ [] → TwoPlaces vs a b → (x y : Bool) → (is_base_layer a.entry && is_second_layer b.entry) ≡ x
        → (is_base_layer b.entry && is_second_layer a.entry) ≡ y → SetCase (arranged a b)
    both_ways_round a b is t true y p q = rw p (the_two t.at_first t.at_second p t.only)
    both_ways_round a b is t false true p q = rw (p, q) (the_two t.at_second t.at_first q (λ i u l. swapped (t.only i u l)))
    both_ways_round a b is t false false p q = unless (a ∷ b ∷ []) is (rw (p, q))

    pub set_case : SetCase (set_of (layers_among vs))
    set_case = go (layers_among vs) (placed vs) refl
      where
        go : (ls : List View) → Placed vs ls → layers_among vs ≡ ls → SetCase (set_of ls)
        go [] f is = unless [] is refl
        go (a ∷ []) o is = unless (a ∷ []) is refl
        go (a ∷ b ∷ []) (two_places t) is = both_ways_round a b is t _ _ refl refl
        go (a ∷ b ∷ c ∷ others) m is = unless (a ∷ b ∷ c ∷ others) is refl
