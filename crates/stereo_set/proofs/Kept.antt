-- What a walk keeps of the layers says as much of the set as all of them do.
-- Assumes nothing.
use mathlib.Core.Path.{◌≡◌, refl, ◌∙◌, ap}
use mathlib.Core.Bool.{Bool, true, false, cond}
use mathlib.Core.List.{List, [], ◌∷◌, ◌++◌}
use Rattle.stereo_set.specs.declared.views.View.{View}
use Rattle.stereo_set.specs.declared.views.Layers.{Layers}
use Rattle.stereo_set.specs.Views.{is_layer_view, if_layer, layers_among, no_views, add_layer, layers_after}
use Rattle.stereo_set.specs.Set.{set_of, set_by}

-- one layer after another
abbrev add_all : Layers → List View → Layers
add_all l [] = l
add_all l (v ∷ vs) = add_all (add_layer l v) vs

-- entries that are no layers add nothing
only_layers : (l : Layers) (vs : List View) → layers_after l vs ≡ add_all l (layers_among vs)
only_layers l [] = refl
only_layers l (v ∷ vs) = go (is_layer_view v) refl (λ k. only_layers k vs)
  where
    go : (b : Bool) → is_layer_view v ≡ b → ((k : Layers) → layers_after k vs ≡ add_all k (layers_among vs))
        → layers_after (cond (is_layer_view v) (add_layer l v) l) vs ≡ add_all l (if_layer v ++ layers_among vs)
    go true p ih = rw p (ih (add_layer l v))
    go false p ih = rw p (ih l)

-- past two it stays so
past_two : (a b : View) (vs : List View) → set_by (add_all (record { count = 3; first = a; second = b }) vs) ≡ set_of (a ∷ b ∷ a ∷ vs)
past_two a b [] = refl
past_two a b (v ∷ vs) = past_two a b vs

kept : (vs : List View) → set_by (add_all no_views vs) ≡ set_of vs
kept [] = refl
kept (a ∷ []) = refl
kept (a ∷ b ∷ []) = refl
kept (a ∷ b ∷ c ∷ vs) = past_two a b vs

-- THE WALK comes to what is said of all of them.
pub kept_set : (vs : List View) → set_by (layers_after no_views vs) ≡ set_of (layers_among vs)
kept_set vs = ap set_by (only_layers no_views vs) ∙ kept (layers_among vs)
