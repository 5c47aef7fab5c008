-- The layers among entries, and where they stand: none, one, two, or more than two.
-- Assumes nothing.
use Prim.Native.Nat.{ℕ, zero, suc, ◌<◌}
use mathlib.Core.Path.{◌≡◌, refl, ap}
use mathlib.Core.Logic.{◌⊎◌, inl, inr, ⊎_elim}
use mathlib.Core.Bool.{Bool, true, false, cond}
use mathlib.Core.List.{List, [], ◌∷◌, ◌++◌}
use native.Mathlib.Omega.{arith}
use native.Mathlib.Nat.{not-suc-le-zero}
use Rattle.combinators.specs.Bools.{both_ways}
use Rattle.combinators.specs.Lists.{Nth, here, there, nth_inside}
use Rattle.stereo_set.specs.declared.views.View.{View}
use Rattle.stereo_set.specs.Views.{is_layer_view, layers_among}

pub record LayerPlace (vs : List View) (k : ℕ) (v : View) : Type 0 where
  pub stands : Nth vs k v
  pub layer : is_layer_view v ≡ true

pub record OnePlace (vs : List View) (a : View) : Type 0 where
  pub place : ℕ
  pub at_place : LayerPlace vs place a
  pub only : (i : ℕ) (v : View) → LayerPlace vs i v → i ≡ place

pub record TwoPlaces (vs : List View) (a b : View) : Type 0 where
  pub first : ℕ
  pub second : ℕ
  pub order : first < second
  pub at_first : LayerPlace vs first a
  pub at_second : LayerPlace vs second b
  pub only : (i : ℕ) (v : View) → LayerPlace vs i v → (i ≡ first) ⊎ (i ≡ second)

pub record ThreePlaces (vs : List View) : Type 0 where
  pub first : ℕ
  pub second : ℕ
  pub third : ℕ
  pub order : first < second
  pub later : second < third
  pub a : View
  pub b : View
  pub c : View
  pub at_first : LayerPlace vs first a
  pub at_second : LayerPlace vs second b
  pub at_third : LayerPlace vs third c

pub data Placed (vs : List View) : List View → Type 0 where
  no_place : ((i : ℕ) (v : View) → LayerPlace vs i v → ⊥) → Placed vs []
  one_place : {a : View} → OnePlace vs a → Placed vs (a ∷ [])
  two_places : {a b : View} → TwoPlaces vs a b → Placed vs (a ∷ b ∷ [])
  more_places : {a b c : View} {others : List View} → ThreePlaces vs → Placed vs (a ∷ b ∷ c ∷ others)

-- an entry more before them
module _ (v : View) (vs : List View) where
  shift : {k : ℕ} {x : View} → LayerPlace vs k x → LayerPlace (v ∷ vs) (suc k) x
  shift p = record { stands = there p.stands; layer = p.layer }

  back : {k : ℕ} {x : View} → LayerPlace (v ∷ vs) (suc k) x → LayerPlace vs k x
  back {k} {x} p = go p.stands
    where
      go : Nth (v ∷ vs) (suc k) x → LayerPlace vs k x
      go (there n) = record { stands = n; layer = p.layer }

  front : is_layer_view v ≡ true → LayerPlace (v ∷ vs) 0 v
  front e = record { stands = here; layer = e }

  is_front : {x : View} → LayerPlace (v ∷ vs) 0 x → is_layer_view v ≡ true
  is_front {x} p = go p.stands p.layer
    where
      go : {y : View} → Nth (v ∷ vs) 0 y → is_layer_view y ≡ true → is_layer_view v ≡ true
      go here e = e

  later_place : {i place : ℕ} → i ≡ place → suc i ≡ suc place
  later_place e = ap suc e

  -- no layer in front
  without : is_layer_view v ≡ false → {ls : List View} → Placed vs ls → Placed (v ∷ vs) ls
  without none (no_place f) = no_place go
    where
      go : (i : ℕ) (x : View) → LayerPlace (v ∷ vs) i x → ⊥
      go zero x p = both_ways (is_front p) none
      go (suc i) x p = f i x (back p)
  without none (one_place {a} o) = one_place (record { place = suc o.place; at_place = shift o.at_place; only = go })
    where
      go : (i : ℕ) (x : View) → LayerPlace (v ∷ vs) i x → i ≡ suc o.place
      go zero x p = both_ways (is_front p) none
      go (suc i) x p = ap suc (o.only i x (back p))
  without none (two_places {a} {b} t) =
      two_places
      (record {
        first = suc t.first;
        second = suc t.second;
        order = (let h = t.order in omega arith);
        at_first = shift t.at_first;
        at_second = shift t.at_second;
        only = go;
      })
    where
      go : (i : ℕ) (x : View) → LayerPlace (v ∷ vs) i x → (i ≡ suc t.first) ⊎ (i ≡ suc t.second)
      go zero x p = both_ways (is_front p) none
      go (suc i) x p = ⊎_elim (λ e. inl (ap suc e)) (λ e. inr (ap suc e)) (t.only i x (back p))
  without none (more_places t) =
      more_places
      (record {
        first = suc t.first;
        second = suc t.second;
        third = suc t.third;
        order = (let h = t.order in omega arith);
        later = (let h = t.later in omega arith);
        a = t.a;
        b = t.b;
        c = t.c;
        at_first = shift t.at_first;
        at_second = shift t.at_second;
        at_third = shift t.at_third;
      })

  -- a layer in front
  with_front : is_layer_view v ≡ true → {ls : List View} → Placed vs ls → Placed (v ∷ vs) (v ∷ ls)
  with_front e (no_place f) = one_place (record { place = 0; at_place = front e; only = go })
    where
      go : (i : ℕ) (x : View) → LayerPlace (v ∷ vs) i x → i ≡ 0
      go zero x p = refl
      go (suc i) x p = absurd (f i x (back p))
  with_front e (one_place {a} o) =
      two_places
      (record { first = 0; second = suc o.place; order = omega arith; at_first = front e; at_second = shift o.at_place; only = go })
    where
      go : (i : ℕ) (x : View) → LayerPlace (v ∷ vs) i x → (i ≡ 0) ⊎ (i ≡ suc o.place)
      go zero x p = inl refl
      go (suc i) x p = inr (ap suc (o.only i x (back p)))
  with_front e (two_places {a} {b} t) =
      more_places
      (record {
        first = 0;
        second = suc t.first;
        third = suc t.second;
        order = omega arith;
        later = (let h = t.order in omega arith);
        a = v;
        b = a;
        c = b;
        at_first = front e;
        at_second = shift t.at_first;
        at_third = shift t.at_second;
      })
  with_front e (more_places t) =
      more_places
      (record {
        first = 0;
        second = suc t.first;
        third = suc t.second;
        order = omega arith;
        later = (let h = t.order in omega arith);
        a = v;
        b = t.a;
        c = t.b;
        at_first = front e;
        at_second = shift t.at_first;
        at_third = shift t.at_second;
      })

pub placed : (vs : List View) → Placed vs (layers_among vs)
placed [] = no_place (λ i v p. not-suc-le-zero (nth_inside p.stands))
placed (v ∷ vs) = go (is_layer_view v) refl (placed vs)
  where
    go : (b : Bool) → is_layer_view v ≡ b → Placed vs (layers_among vs) → Placed (v ∷ vs) (cond b (v ∷ []) [] ++ layers_among vs)
    go true p ih = with_front v vs p ih
    go false p ih = without v vs p ih
