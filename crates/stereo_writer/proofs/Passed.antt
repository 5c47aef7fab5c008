-- One entry more, in the pass that keeps the layers.
-- Assumes nothing.
use Prim.Native.Nat.{ℕ, ◌+◌, ◌<◌}
use mathlib.Core.Path.{◌≡◌, refl, sym, ◌∙◌, ap}
use mathlib.Core.List.{List, [], ◌∷◌, ◌++◌, map, map-append}
use native.Mathlib.Numerals.{add-one}
use lib.ListN.{length, get_or, take}
use lib.Seq.{take-suc}
use Rattle.loop_entries.specs.declared.Entry.{Entry}
use Rattle.loop_entries.specs.Entries.{blank_entry}
use Rattle.mvc_extension.specs.declared.MvcExtension.{MvcExtension}
use Rattle.stereo_set.specs.declared.views.View.{View}
use Rattle.stereo_set.specs.declared.views.Layers.{Layers}
use Rattle.stereo_set.specs.Views.{no_views, next_view, layers_after}
use Rattle.stereo_writer.specs.Layout.{view_for}

after_last : (l : Layers) (vs : List View) (v : View) → layers_after l (vs ++ v ∷ []) ≡ next_view (layers_after l vs) v
after_last l [] v = refl
after_last l (u ∷ vs) v = after_last (next_view l u) vs v

pub passed_next : (x y : MvcExtension) (entries : List Entry) (i : ℕ) → i < length entries → (layers : Layers)
    → layers ≡ layers_after no_views (map (view_for x y) (take i entries))
    → next_view layers (view_for x y (get_or entries i blank_entry)) ≡ layers_after no_views (map (view_for x y) (take (i + 1) entries))
passed_next x y entries i h layers inv =
    let e : Entry = get_or entries i blank_entry in
    let longer : map (view_for x y) (take (i + 1) entries) ≡ map (view_for x y) (take i entries) ++ view_for x y e ∷ [] =
    rw (add-one i, take-suc entries i blank_entry h, map-append (view_for x y) (take i entries) (e ∷ [])) in
    ap (λ (l : Layers). next_view l (view_for x y e)) inv
    ∙ sym (after_last no_views (map (view_for x y) (take i entries)) (view_for x y e))
    ∙ sym (ap (layers_after no_views) longer)
