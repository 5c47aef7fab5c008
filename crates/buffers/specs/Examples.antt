-- Small lists in small buffers, computed from the definitions.
-- Assumes nothing.
use Rattle.std.specs.Prelude.{ℕ, List, [], ◌∷◌, ◌≡◌, refl}
use Rattle.std.proofs.lemmas.List.Edits.{sets}
use Rattle.buffers.specs.Buffers.{over}

abbrev blank : List ℕ
blank = 0 ∷ 0 ∷ 0 ∷ 0 ∷ []

at_the_front : over (7 ∷ 8 ∷ []) blank ≡ 7 ∷ 8 ∷ 0 ∷ 0 ∷ []
at_the_front = refl

nothing_written : over [] blank ≡ blank
nothing_written = refl

from_a_place : sets blank 1 (7 ∷ 8 ∷ []) ≡ 0 ∷ 7 ∷ 8 ∷ 0 ∷ []
from_a_place = refl

cut_off : sets blank 3 (7 ∷ 8 ∷ []) ≡ 0 ∷ 0 ∷ 0 ∷ 7 ∷ []
cut_off = refl
