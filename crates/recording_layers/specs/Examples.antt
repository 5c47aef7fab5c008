-- Layer PIDs of a few loops, computed.
-- Assumes nothing.
use Rattle.std.specs.Prelude.{ℕ, List, [], ◌∷◌, map, ◌≡◌, refl, get_or}
use Rattle.es_loop.specs.Examples.{loop_a}
use Rattle.loop_layers.specs.Examples.{two_views, second_view, first_view}
use Rattle.recording_layers.specs.Meaning.{loop_pids, no_layer}

abbrev at : List ℕ → List ℕ → List ℕ
at bytes = map (λ pid. get_or (loop_pids bytes) pid 0)

-- loop A: the three layers, though layer 2 is in no closure but its own; and two PIDs of no layer
of_loop_a : at loop_a (0x100 ∷ 0x101 ∷ 0x102 ∷ 0x103 ∷ 0x000 ∷ []) ≡ 0 ∷ 1 ∷ 2 ∷ no_layer ∷ no_layer ∷ []
of_loop_a = refl

-- two views without a hierarchy descriptor are layers 0 and 1, and one alone is none
of_two_views : at two_views (0x100 ∷ 0x101 ∷ []) ≡ 0 ∷ 1 ∷ []
of_two_views = refl

of_one_view : at first_view (0x100 ∷ []) ≡ no_layer ∷ []
of_one_view = refl

of_the_other : at second_view (0x101 ∷ []) ≡ no_layer ∷ []
of_the_other = refl
