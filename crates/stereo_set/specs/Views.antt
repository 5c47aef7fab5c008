-- THE LAYERS among the entries of a loop, each with what its descriptors have of the MVC extension descriptor; which of them is the base and which the second; and
-- the same along a walk, which keeps two of them whole.
-- Assumes nothing.
use Rattle.std.specs.Prelude.{ℕ, Bool, cond, ◌&&◌, List, [], ◌∷◌, eqb}
use Rattle.combinators.specs.Lists.{gather}
use Rattle.records.specs.Records.{is_layer, index_of}
use Rattle.loop_entries.specs.declared.Entry.{Entry}
use Rattle.loop_entries.specs.Entries.{blank_entry}
use Rattle.mvc_descriptors.specs.declared.Found.TheVariants.{Missing}
use Rattle.stereo_set.specs.declared.views.View.{View}
use Rattle.stereo_set.specs.declared.views.Layers.{Layers}

-- the index of a layer
abbrev pub index_in : Entry → ℕ
index_in e = index_of e.stream_type e.«record»

-- of a layer: 'one 0x1B base of index 0 and one 0x20 of index 1 resting on it'. (In a loop that is accepted the first names no layer, and the second names 0
-- alone: proofs/Named.antt.)
abbrev pub is_base_layer : Entry → Bool
is_base_layer e = eqb e.stream_type 0x1B && eqb (index_in e) 0

abbrev pub is_second_layer : Entry → Bool
is_second_layer e = eqb e.stream_type 0x20 && eqb (index_in e) 1

-- the layers among entries, in their order: 'other entries that are no layers may stand beside'
abbrev pub is_layer_view : View → Bool
is_layer_view v = is_layer v.entry.«record»

abbrev pub if_layer : View → List View
if_layer v = cond (is_layer_view v) (v ∷ []) []

abbrev pub layers_among : List View → List View
layers_among views = gather if_layer views

-- ALONG A WALK
abbrev pub no_view : View
no_view = record { entry = blank_entry; found = Missing }

abbrev pub no_views : Layers
no_views = record { count = 0; first = no_view; second = no_view }

-- one layer more, of whatever two that are kept; a count of 3 stays
abbrev pub add_to : ℕ → View → View → View → Layers
add_to count first second v =
    cond (eqb count 0) (record { count = 1; first = v; second = second })
    (cond (eqb count 1) (record { count = 2; first = first; second = v }) (record { count = 3; first = first; second = second }))

abbrev pub add_layer : Layers → View → Layers
add_layer l v = add_to l.count l.first l.second v

-- one entry more
abbrev pub next_view : Layers → View → Layers
next_view l v = cond (is_layer_view v) (add_layer l v) l

abbrev pub layers_after : Layers → List View → Layers
layers_after l [] = l
layers_after l (v ∷ vs) = layers_after (next_view l v) vs
