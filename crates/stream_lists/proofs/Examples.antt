-- Lists of a few references, each computed from the definition.
-- Assumes nothing.
use mathlib.Core.Bool.{true, false}
use mathlib.Core.List.{[], ◌∷◌}
use mathlib.Core.Path.{◌≡◌, refl}
use lib.ListN.{replicate}
use Rattle.closure.specs.declared.Layers.{Layers}
use Rattle.sets.specs.Sets.{members_of}
use Rattle.stream_lists.specs.Lists.{stream_list, list_built, is_closed}

-- A diamond: 1 and 2 each embed 0, and 3 embeds 1 and 2; 5 embeds 4, which the loop has not.
abbrev diamond : Layers
diamond = record { present = 0b101111; embedded = 0 ∷ 0b1 ∷ 0b1 ∷ 0b110 ∷ 0 ∷ 0b10000 ∷ replicate 58 0 }

-- prepend_dependencies is bit 6 of a reference: what 3 embeds goes before it, and not what these embed
direct_only : list_built diamond (0x43 ∷ []) ≡ record { absent = false; list = stream_list (1 ∷ 2 ∷ 3 ∷ []) }
unfolding members_of
direct_only = refl

-- without it only the reference is added
nothing_prepended : list_built diamond (0x03 ∷ []) ≡ record { absent = false; list = stream_list (3 ∷ []) }
unfolding members_of
nothing_prepended = refl

-- where the reference was present, what it embeds goes before the place where it stands, and 2, which is present, stays where it is
before_its_place : list_built diamond (0x00 ∷ 0x03 ∷ 0x02 ∷ 0x43 ∷ []) ≡ record { absent = false; list = stream_list (0 ∷ 1 ∷ 3 ∷ 2 ∷ []) }
unfolding members_of
before_its_place = refl

-- an absent dependency gives 42 with the flag, and nothing without
absent_dependency_flagged : list_built diamond (0x45 ∷ []) ≡ record { absent = true; list = stream_list [] }
absent_dependency_flagged = refl

absent_dependency_alone : list_built diamond (0x05 ∷ []) ≡ record { absent = false; list = stream_list (5 ∷ []) }
unfolding members_of
absent_dependency_alone = refl

-- an absent reference gives 42
absent_reference : list_built diamond (0x00 ∷ 0x04 ∷ []) ≡ record { absent = true; list = stream_list [] }
absent_reference = refl

-- 1, 2, 3 is not closed under embedding, with 0 it is
not_closed : is_closed diamond 0b1110 ≡ false
unfolding members_of
not_closed = refl

closed_with_the_base : is_closed diamond 0b1111 ≡ true
unfolding members_of
closed_with_the_base = refl
